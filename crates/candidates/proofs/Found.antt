-- A triangle that reaches a box has a candidate that fits.
--     Some, some_next   some candidate from number m on fits
--     reaches_some      of a triangle that reaches the box, some candidate fits
-- Assumes nothing.
use mathlib.Core.List.{List}
use mathlib.Core.Logic.{inl, inr}
use mathlib.Core.Path.{◌≡◌, sym, subst}
use Prim.Native.Nat.{ℕ, ◌+◌, ◌*◌, ◌/◌, ◌%◌, ◌<◌, ◌≤◌}
use native.Mathlib.Nat.{eq-or-lt_of_le}
use native.Mathlib.Omega.{arith}
use lib.IntN.{pos}
use Rattle.geometry.specs.declared.Point.{Point}
use Rattle.geometry.specs.declared.Triangle.{Triangle}
use Rattle.geometry.specs.Geometry.{point}
use Rattle.reach.specs.Reaches.{ReachesBox}
use Rattle.candidates.specs.Candidates.{rows, Fits, candidate}
use Rattle.candidates.proofs.Rays.{two-rows}
use Rattle.candidates.proofs.Boxes.{reaches-fits}

-- ---- some candidate from number m on fits
pub record Some (rs : List Point) (m : ℕ) : Type 0 where
  pub k : ℕ
  pub from : m ≤ k
  pub below : k < 81
  pub fits : Fits rs (candidate rs k)

-- and it is not m
pub some_next : {rs : List Point} {m : ℕ} → Some rs m → (Fits rs (candidate rs m) → ⊥) → Some rs (m + 1)
some_next {rs} {m} s not = elim (eq-or-lt_of_le s.from) [
  | inl e ↦ absurd (not (subst (λ k. Fits rs (candidate rs k)) (sym e) s.fits))
  | inr l ↦ record { k = s.k; from = omega arith; below = s.below; fits = s.fits }
]

pub reaches_some : {t : Triangle} {p d : Point} → ReachesBox t p d → Some (rows t p d) 0
reaches_some r =
    let y = two-rows _ (point (pos r.w0) (pos r.w1) (pos r.w2)) (reaches-fits r) in
    record {
      k = y.i * 9 + y.j;
      from = omega arith;
      below = omega (arith, y.i<, y.j<);
      fits = rw (remainder y.i y.j y.j<, quotient y.i y.j y.j<) y.fits;
    }
  where
    remainder : (i j : ℕ) → j < 9 → (i * 9 + j) % 9 ≡ j
    remainder i j h = omega arith

    quotient : (i j : ℕ) → j < 9 → (i * 9 + j) / 9 ≡ i
    quotient i j h = omega arith
