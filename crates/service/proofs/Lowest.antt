-- The lowest record that has a property.
--     lowest-clear         there is none where no record has it
--     lowest-at            where none of i records has it, and the next has, that one is the lowest of all
--     lowest-below         the lowest of n records is one of them
-- And a triangle and a box, by the overlap rule.
--     overlap-reaches, apart-not
-- Assumes nothing.
use mathlib.Core.Bool.{Bool, true, false, cond}
use mathlib.Core.Path.{◌≡◌, refl, sym, subst}
use Prim.Native.Nat.{ℕ, zero, suc, ◌<◌}
use native.Mathlib.Nat.{not-suc-le-zero}
use native.Mathlib.Decide.{dec_lt}
use native.Mathlib.Omega.{arith}
use Rattle.std.specs.Prelude.{Option, Some, None}
use lib.Dec.{T}
use lib.IntN.{ℤ, pos}
use lib.Signed.{◌≤ℤ◌}
use Rattle.geometry.specs.declared.Point.{Point}
use Rattle.geometry.specs.declared.Triangle.{Triangle}
use Rattle.geometry.specs.Geometry.{cube}
use Rattle.overlap.specs.Rule.{overlaps_box}
use Rattle.reach.specs.Reaches.{ReachesBox}
use Rattle.reach.proofs.Theorem.{cell-rule}
use Rattle.service.specs.Bar.{lowest}

module _ (has : ℕ → Bool) where
  -- the one found before is kept
  kept : (n i : ℕ) → lowest has n ≡ Some i → lowest has (suc n) ≡ Some i
  unfolding lowest
  kept n i h = rw h

  pub lowest-clear : (n : ℕ) → ((i : ℕ) → i < n → has i ≡ false) → lowest has n ≡ None
  unfolding lowest
  lowest-clear zero h = refl
  lowest-clear (suc n) h = rw (lowest-clear n (λ i l. h i (omega arith)), h n (omega arith))

  found : (n : ℕ) → lowest has n ≡ None → has n ≡ true → lowest has (suc n) ≡ Some n
  unfolding lowest
  found n h e = rw (h, e)

  pub lowest-at : (i n : ℕ) → i < n → lowest has i ≡ None → has i ≡ true → lowest has n ≡ Some i
  lowest-at i zero l h e = absurd (not-suc-le-zero l)
  lowest-at i (suc n) l h e = go (dec_lt i n) (lowest-at i n)
    where
      go : Dec (i < n) → (i < n → lowest has i ≡ None → has i ≡ true → lowest has n ≡ Some i) → lowest has (suc n) ≡ Some i
      go (yes m) ih = kept n i (ih m h e)
      go (no m) ih = let same : n ≡ i = omega arith in rw same (found i h e)

  pub lowest-below : (n i : ℕ) → lowest has n ≡ Some i → i < n
  unfolding lowest
  lowest-below zero i h = let z : ◌≡◌ {A = ℕ} 0 1 = cc in absurd (omega arith)
  lowest-below (suc n) i h = go (lowest has n) (has n) (lowest-below n i) h
    where
      go : (f : Option ℕ) (b : Bool) → (f ≡ Some i → i < n) → elim f [ Some j ↦ Some j | None ↦ cond b (Some n) None ] ≡ Some i → i < suc n
      go (Some j) b below e = let l = below e in omega arith
      go None true below e = let same : n ≡ i = cc in omega arith
      go None false below e = let z : ◌≡◌ {A = ℕ} 0 1 = cc in absurd (omega arith)

-- ---- triangles and a box, by the overlap rule
module _ {t : Triangle} {p : Point} {d : ℤ} (thick : pos 0 ≤ℤ d) where
  pub overlap-reaches : overlaps_box t p (cube d) ≡ true → ReachesBox t p (cube d)
  overlap-reaches h = (cell-rule t p d thick).0 (subst T (sym h) tt)

  pub apart-not : overlaps_box t p (cube d) ≡ false → ReachesBox t p (cube d) → ⊥
  apart-not h r = subst T h ((cell-rule t p d thick).1 r)
