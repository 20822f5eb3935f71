-- A map that is filled by pieces (a worklist): blocks of cells are pending, the last one is taken, and it is finished, or its halves take its place. The type B of
-- blocks is any; `wanted b n` says that cell n lies in block b and is to be filled. Definitions only.
use Rattle.std.specs.Prelude.{Bool, true, false, ◌||◌, List, [], ◌∷◌, ◌≡◌, ℕ, zero, suc, ◌+◌, ◌-◌, ◌*◌, ◌^◌, ltb, length, get_or}
use Rattle.map.specs.Map.{is_filled, bit}

module _ {B : Type 0} where
  -- The first n blocks of an array, as a stack: the last of them comes first. Past its end the array reads as z.
  unfoldable pub stack : (z : B) → List B → ℕ → List B
  stack z blocks zero = []
  stack z blocks (suc n) = get_or blocks n z ∷ stack z blocks n

  -- Cell n is wanted in a pending block. The blocks stand in a stack, the last one first.
  abbrev pub waits : (wanted : B → ℕ → Bool) → List B → ℕ → Bool
  waits wanted [] n = false
  waits wanted (b ∷ bs) n = wanted b n || waits wanted bs n

  -- Block `whole` is being filled into the map `old`: the cells that are filled, or wanted in a pending block, are those that were filled, or are wanted in `whole`.
  pub record Progress (wanted : B → ℕ → Bool) (whole : B) (old : List ℕ) (pending : List B) (map : List ℕ) : Type 0 where
    pub len : length map ≡ length old
    pub cells : (n : ℕ) → (is_filled map n || waits wanted pending n) ≡ (is_filled old n || wanted whole n)

  -- Each block of the stack has the property, at its place above the bottom.
  abbrev pub Each : (P : (place : ℕ) → B → Type 0) → List B → Type 0
  Each P [] = Unit
  Each P (b ∷ bs) = P (length bs) b × Each P bs

  -- What falls with each turn. A block weighs more than two blocks together that fewer halvings cut into cells.
  abbrev pub weight : (depth : B → ℕ) → B → ℕ
  weight depth b = 2 * 2 ^ depth b - 1

  abbrev pub load : (depth : B → ℕ) → List B → ℕ
  load depth [] = 0
  load depth (b ∷ bs) = weight depth b + load depth bs

  -- A block put on the stack, or not.
  abbrev pub put_if : Bool → B → List B → List B
  put_if true b bs = b ∷ bs
  put_if false b bs = bs

-- How many halvings lead from a row of n cells, at most 64, to single cells, where the larger half of an odd row has one cell more: the logarithm of n to the
-- base 2, rounded up.
abbrev pub halvings : ℕ → ℕ
halvings n = bit (ltb 1 n) + bit (ltb 2 n) + bit (ltb 4 n) + bit (ltb 8 n) + bit (ltb 16 n) + bit (ltb 32 n)
