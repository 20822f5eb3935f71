-- Counts, digit by digit.
--     digit-is        the library's test
--     digit-within    a digit's code
--     Counting    what the loop keeps: the digits that are left, behind the value so far
--     cut         the end of the file
--     feed        a line feed
--     other       a character that is neither a digit nor a line feed
--     much        a digit that makes the value too large
--     next        another digit
--     behind-end, no_digit, some-digit    the first character
-- Assumes nothing.
use Rattle.std.specs.Prelude.{Some, None}
use mathlib.Core.Bool.{Bool, true, false, and-eq-true_iff}
use mathlib.Core.List.{List, [], ◌∷◌}
use Rattle.std.specs.Char.{is_ascii_digit}
use mathlib.Core.Path.{◌≡◌, refl, sym, ◌∙◌}
use Prim.Native.Nat.{ℕ, ◌+◌, ◌-◌, ◌*◌, ◌<◌, ◌≤◌}
use native.Mathlib.Omega.{arith}
use borrow.Author.Tests.{leb-true, le-leb, lt-leb, ne_eqb}
use lib.Dec.{leb, eqb}
use lib.ListN.{length, get_or, drop, drop_of_length-le, get_or-eq_default}
use Rattle.ply_header.specs.Text.{digit, count_from, count}
use Rattle.ply_header.specs.Inner.{limited}
use Rattle.ply_header.proofs.Texts.{more}

pub digit-is : (c : ℕ) → is_ascii_digit c ≡ digit c
unfolding digit
digit-is c = refl

pub digit-within : (c : ℕ) → digit c ≡ true → (48 ≤ c) × (c ≤ 57)
unfolding digit
digit-within c h = let t = (and-eq-true_iff (leb 48 c) (leb c 57)).0 h in (leb-true 48 c t.0, leb-true c 57 t.1)

-- Once a value is above the limit, what follows is no count.
above_step : (n v at c : ℕ) (rest : List ℕ) (d f : Bool) → digit c ≡ d → eqb c 10 ≡ f → n < v → limited n (count_from (v * 10 + (c - 48)) (at + 1) rest) ≡ None → limited n (count_from v at (c ∷ rest)) ≡ None
unfolding count_from limited
above_step n v at c rest true f e g h ih = rw e ih
above_step n v at c rest false true e g h ih = rw (e, g, lt-leb v n h)
above_step n v at c rest false false e g h ih = rw (e, g)

above : (n v at : ℕ) (rest : List ℕ) → n < v → limited n (count_from v at rest) ≡ None
unfolding count_from limited
above n v at [] h = refl
above n v at (c ∷ rest) h = above_step n v at c rest (digit c) (eqb c 10) refl refl h (above n (v * 10 + (c - 48)) (at + 1) rest (omega arith))

pub record Counting (s : List ℕ) (at v i : ℕ) : Type 0 where
  pub room : v ≤ length s
  pub same : limited (length s) (count_from 0 at (drop at s)) ≡ limited (length s) (count_from v i (drop i s))

module _ {s : List ℕ} {at v i : ℕ} (r : Counting s at v i) where
  pub cut : length s ≤ i → None ≡ limited (length s) (count_from 0 at (drop at s))
  unfolding count_from limited
  cut h = sym (r.same ∙ rw (drop_of_length-le s h))

  module _ (h : i < length s) where
    pub feed : get_or s i 0 ≡ 10 → Some (v, i + 1) ≡ limited (length s) (count_from 0 at (drop at s))
    unfolding digit count_from limited
    feed e = sym (r.same ∙ rw (more s i h, e, le-leb v (length s) r.room))

    pub other : (get_or s i 0 ≡ 10 → ⊥) → digit (get_or s i 0) ≡ false → None ≡ limited (length s) (count_from 0 at (drop at s))
    unfolding count_from limited
    other n e = sym (r.same ∙ rw (more s i h, e, ne_eqb (get_or s i 0) 10 n))

    module _ (e : digit (get_or s i 0) ≡ true) where
      pub much : length s < v * 10 + (get_or s i 0 - 48) → None ≡ limited (length s) (count_from 0 at (drop at s))
      unfolding count_from
      much m = sym (r.same ∙ rw (more s i h, e) (above (length s) (v * 10 + (get_or s i 0 - 48)) (i + 1) (drop (i + 1) s) m))

      pub next : v * 10 + (get_or s i 0 - 48) ≤ length s → Counting s at (v * 10 + (get_or s i 0 - 48)) (i + 1)
      unfolding count_from
      next m = record { room = m; same = r.same ∙ rw (more s i h, e) }

-- ---- the first character
module _ (s : List ℕ) (at : ℕ) where
  pub behind-end : length s ≤ at → None ≡ limited (length s) (count s at)
  unfolding digit count limited
  behind-end h = rw (get_or-eq_default s 0 h)

  pub no_digit : digit (get_or s at 0) ≡ false → None ≡ limited (length s) (count s at)
  unfolding count limited
  no_digit e = rw e

  pub some-digit : digit (get_or s at 0) ≡ true → limited (length s) (count_from 0 at (drop at s)) ≡ limited (length s) (count s at)
  unfolding count
  some-digit e = rw e
