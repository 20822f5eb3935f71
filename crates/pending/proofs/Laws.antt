-- Laws of a map that is filled by pieces.
--     stack_top, stack-halves       a block is taken from the array, and its halves take its place
--     stack-is                      the stack of an array, as `blocks::Pending` shows it
--     taken, length-put             the last block is taken, and another put in its place
--     each_halves                   what holds of each block
--     begun, finished, halved, done what is filled and what is pending, from the first block to the last
--     lighter, halves-lighter       what falls with each turn
--     fewer, six                    half a row of cells wants fewer halvings, and no row more than six
-- Assumes nothing.
use mathlib.Core.Bool.{Bool, true, false, ◌||◌, or_assoc, or-false}
use mathlib.Core.List.{List, [], ◌∷◌}
use Rattle.std.proofs.Common.{Some, drop}
use Rattle.std.specs.List.{slice_get}
use mathlib.Core.Path.{◌≡◌, refl, sym, ap, ◌∙◌}
use Prim.Native.Nat.{ℕ, zero, suc, ◌+◌, ◌-◌, ◌*◌, ◌^◌, ◌<◌, ◌≤◌}
use native.Mathlib.Decide.{dec_lt}
use native.Mathlib.Nat.{pow-suc}
use native.Mathlib.Omega.{arith}
use borrow.Author.Tests.{lt-ltb, le-ltb}
use lib.Dec.{ltb}
use lib.ListN.{length, get_or, set, length-set}
use lib.Seq.{get_or-set_same, get_or-set_other}
use native.Mathlib.Numerals.{add-one}
use Rattle.std.proofs.Common.{take, reverse}
use Rattle.std.proofs.Math.Seq.{take-suc}
use Rattle.std.proofs.lemmas.List.{reverse-append}
use lib.Pow.{pow_mono, pow_pos}
use Rattle.map.specs.Map.{is_filled, bit}
use Rattle.pending.specs.Pending.{stack, waits, Progress, Each, weight, load, put_if, halvings}

pub bit-most : (k : Bool) → bit k ≤ 1
bit-most true = omega arith
bit-most false = omega arith

module _ {B : Type 0} where
  -- ---- the array
  module _ (z : B) where
    pub stack-length : (xs : List B) (n : ℕ) → length (stack z xs n) ≡ n
    unfolding stack
    stack-length xs zero = refl
    stack-length xs (suc n) = ap suc (stack-length xs n)

    pub stack_top : (xs : List B) (n : ℕ) → 0 < n → stack z xs n ≡ get_or xs (n - 1) z ∷ stack z xs (n - 1)
    unfolding stack
    stack_top xs n h = let e : n ≡ suc (n - 1) = omega arith in ap (stack z xs) e

    below : (xs : List B) (p : ℕ) (b : B) (n : ℕ) → n ≤ p → stack z (set xs p b) n ≡ stack z xs n
    unfolding stack
    below xs p b zero h = refl
    below xs p b (suc n) h = λ i. get_or-set_other xs p n b z (λ e. omega arith) i ∷ below xs p b n (omega arith) i

    stack-put : (xs : List B) (p : ℕ) (k : Bool) (b : B) → p < length xs → stack z (set xs p b) (p + bit k) ≡ put_if k b (stack z xs p)
    unfolding stack
    stack-put xs p true b h = ap (stack z (set xs p b)) (add-one p) ∙ (λ i. get_or-set_same xs p b z h i ∷ below xs p b p (omega arith) i)
    stack-put xs p false b h = let e : p + 0 ≡ p = omega arith in ap (stack z (set xs p b)) e ∙ below xs p b p (omega arith)

    -- the halves of block p take its place, the lower one above
    pub stack-halves : (xs : List B) (p : ℕ) (lower upper : Bool) (low high : B) → p + 1 < length xs
        → stack z (set (set xs p high) (p + bit upper) low) (p + bit upper + bit lower) ≡ put_if lower low (put_if upper high (stack z xs p))
    stack-halves xs p lower upper low high h =
        stack-put (set xs p high) (p + bit upper) lower low (simp length-set (omega (arith, bit-most upper))) ∙ ap (put_if lower low) (stack-put xs p upper high (omega arith))

    -- while the array has so many, they are its first n, the last one first
    pub stack-is : (xs : List B) (n : ℕ) → n ≤ length xs → stack z xs n ≡ reverse (take n xs)
    unfolding stack
    stack-is xs zero h = refl
    stack-is xs (suc n) h =
        ap (λ (ys : List B). get_or xs n z ∷ ys) (stack-is xs n (omega arith))
        ∙ sym (ap reverse (take-suc xs n z (omega arith)) ∙ reverse-append (take n xs) (get_or xs n z ∷ []))

  -- the last block is taken
  pub taken : (xs : List B) {ys : List B} {b : B} → Some b ≡ slice_get xs 0 → ys ≡ drop 1 xs → xs ≡ b ∷ ys
  taken [] e f = cc
  taken (x ∷ xs) e f = cc

  pub length-put : (k : Bool) (b : B) (bs : List B) → length (put_if k b bs) ≤ length bs + 1
  length-put true b bs = omega arith
  length-put false b bs = omega arith

  -- ---- each block's property
  module _ (P : ℕ → B → Type 0) where
    each-put : (k : Bool) (b : B) (bs : List B) → Each P bs → (k ≡ true → P (length bs) b) → Each P (put_if k b bs)
    each-put true b bs rest new = (new refl, rest)
    each-put false b bs rest new = rest

    pub each_halves : (lower upper : Bool) (low high : B) (bs : List B) → Each P bs → (upper ≡ true → P (length bs) high)
        → (lower ≡ true → (place : ℕ) → place ≤ length bs + 1 → P place low) → Each P (put_if lower low (put_if upper high bs))
    each_halves lower upper low high bs rest new-high new-low =
        each-put lower low (put_if upper high bs) (each-put upper high bs rest new-high) (λ e. new-low e (length (put_if upper high bs)) (length-put upper high bs))

  -- ---- what is filled, and what is pending
  module _ (wanted : B → ℕ → Bool) where
    waits-put : (k : Bool) (b : B) (bs : List B) (n : ℕ) → (k ≡ false → wanted b n ≡ false) → waits wanted (put_if k b bs) n ≡ (wanted b n || waits wanted bs n)
    waits-put true b bs n none = refl
    waits-put false b bs n none = ap (λ (t : Bool). t || waits wanted bs n) (sym (none refl))

    module _ (whole : B) (old : List ℕ) where
      pub begun : Progress wanted whole old (whole ∷ []) old
      begun = record { len = refl; cells = λ n. ap (λ (t : Bool). is_filled old n || t) (or-false (wanted whole n)) }

      pub finished : {b : B} {bs : List B} {map new : List ℕ} → Progress wanted whole old (b ∷ bs) map → length new ≡ length map
          → ((n : ℕ) → is_filled new n ≡ (is_filled map n || wanted b n)) → Progress wanted whole old bs new
      finished {b} {bs} {map} p len fills = record {
        len = len ∙ p.len;
        cells = λ n. ap (λ (t : Bool). t || waits wanted bs n) (fills n) ∙ or_assoc (is_filled map n) (wanted b n) (waits wanted bs n) ∙ p.cells n;
      }

      pub halved : {b low high : B} {bs : List B} {map : List ℕ} {lower upper : Bool} → Progress wanted whole old (b ∷ bs) map
          → ((n : ℕ) → wanted b n ≡ (wanted low n || wanted high n)) → (lower ≡ false → (n : ℕ) → wanted low n ≡ false)
          → (upper ≡ false → (n : ℕ) → wanted high n ≡ false) → Progress wanted whole old (put_if lower low (put_if upper high bs)) map
      halved {b} {low} {high} {bs} {map} {lower} {upper} p both none-low none-high = record {
        len = p.len;
        cells = λ n.
            ap (λ (t : Bool). is_filled map n || t)
            (waits-put lower low (put_if upper high bs) n (λ e. none-low e n) ∙ ap (λ (t : Bool). wanted low n || t) (waits-put upper high bs n (λ e. none-high e n))
            ∙ sym (or_assoc (wanted low n) (wanted high n) (waits wanted bs n)) ∙ ap (λ (t : Bool). t || waits wanted bs n) (sym (both n)))
            ∙ p.cells n;
      }

      pub done : {map : List ℕ} → Progress wanted whole old [] map → (n : ℕ) → is_filled map n ≡ (is_filled old n || wanted whole n)
      done {map} p n = sym (or-false (is_filled map n)) ∙ p.cells n

  -- ---- what falls with each turn
  module _ (depth : B → ℕ) where
    pub lighter : (b : B) (bs : List B) → load depth bs < load depth (b ∷ bs)
    lighter b bs = omega (arith, pow_pos (depth b))

    load-put : (k : Bool) (b : B) (bs : List B) → load depth (put_if k b bs) ≤ weight depth b + load depth bs
    load-put true b bs = omega arith
    load-put false b bs = omega arith

    half-weight : (p b : B) → depth p < depth b → 2 * 2 ^ depth p ≤ 2 ^ depth b
    half-weight p b h = omega (arith, pow_mono h, pow-suc 2 (depth p))

    pub halves-lighter : (b low high : B) (lower upper : Bool) (bs : List B) → depth low < depth b → depth high < depth b
        → load depth (put_if lower low (put_if upper high bs)) < load depth (b ∷ bs)
    halves-lighter b low high lower upper bs l h =
        omega (arith, load-put lower low (put_if upper high bs), load-put upper high bs, half-weight low b l, half-weight high b h, pow_pos (depth low), pow_pos (depth high))

-- ---- halvings
bit_le : (k m j n : ℕ) → (k < m → j < n) → bit (ltb k m) ≤ bit (ltb j n)
bit_le k m j n h = go (dec_lt k m)
  where
    go : Dec (k < m) → bit (ltb k m) ≤ bit (ltb j n)
    go (yes l) = rw (lt-ltb k m l, lt-ltb j n (h l)) (omega arith)
    go (no l) = rw (le-ltb k m (omega arith)) (omega arith)

pub fewer : (m n : ℕ) → 1 < n → n ≤ 64 → m + m ≤ n + 1 → halvings m < halvings n
fewer m n some most half =
    let one : bit (ltb 1 n) ≡ 1 = ap bit (lt-ltb 1 n some) in
    let last : bit (ltb 32 m) ≡ 0 = ap bit (le-ltb 32 m (omega arith)) in
    omega (
      arith,
      bit_le 1 m 2 n (λ h. omega arith),
      bit_le 2 m 4 n (λ h. omega arith),
      bit_le 4 m 8 n (λ h. omega arith),
      bit_le 8 m 16 n (λ h. omega arith),
      bit_le 16 m 32 n (λ h. omega arith),
    )

-- Six halvings are enough.
pub six : (n : ℕ) → halvings n ≤ 6
six n = omega (arith, bit-most (ltb 1 n), bit-most (ltb 2 n), bit-most (ltb 4 n), bit-most (ltb 8 n), bit-most (ltb 16 n), bit-most (ltb 32 n))
