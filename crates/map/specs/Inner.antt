-- What the functions of the map answer. Definitions only; no public promise cites them.
use Rattle.std.specs.Prelude.{true, false, List, ◌≡◌, ℕ, ◌+◌, ◌-◌, ◌*◌, ◌/◌, ◌%◌, ◌^◌, ◌<◌, ◌≤◌, get_or, set}
use Rattle.std.specs.Int.Bits.{bit_or}
use Rattle.std.specs.Int.Count.{ones}
use Rattle.map.specs.Map.{is_filled, count_below}

-- r is the first filled cell from `first` on and below `end`, or `end`.
pub record NextFilled (s : List ℕ) (first end r : ℕ) : Type 0 where
  pub from : first ≤ r
  pub to : r ≤ end
  pub skipped : (n : ℕ) → n < r → first ≤ n → is_filled s n ≡ false
  pub stopped : r < end → is_filled s r ≡ true

-- The bytes with cell n filled, and every other cell as it was.
unfoldable pub with_filled : List ℕ → ℕ → List ℕ
with_filled s n = set s (n / 8) (bit_or (get_or s (n / 8) 0) (2 ^ (7 - n % 8)))

-- x has as many ones as the bytes from `from` on and below `to` have filled cells.
pub record OnesOf (s : List ℕ) (from to x : ℕ) : Type 0 where
  pub counted : count_below (is_filled s) (to * 8) ≡ count_below (is_filled s) (from * 8) + ones x
