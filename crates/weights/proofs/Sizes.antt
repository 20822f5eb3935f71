-- How large the numbers of rows and candidates are.
--     on-x, on-y, on-z    what the sides on an axis are computed from
--     rows-bounded        every row
--     candidate-bounded   every candidate
-- Assumes nothing.
use mathlib.Core.List.{List, [], ◌∷◌}
use Prim.Native.Nat.{ℕ, ◌+◌, ◌≤◌, ◌/◌, ◌%◌}
use native.Mathlib.Omega.{arith}
use lib.Dec.{lit≤}
use lib.IntN.{ℤ, nat_abs, ◌-ℤ◌}
use Rattle.integers.specs.Within.{Within, Withins}
use Rattle.integers.proofs.Bounds.{within-sub, within-mul, within-weaken}
use Rattle.geometry.specs.declared.Point.{Point}
use Rattle.geometry.specs.declared.Triangle.{Triangle}
use Rattle.geometry.specs.Bounds.{coordinate_max, offset_max, difference_max, normal_max, extent_max, PointWithin, BoundedPoint, BoundedTriangle}
use Rattle.geometry.specs.Geometry.{cube, Axis, x_of, y_of, z_of}
use Rattle.candidates.specs.Candidates.{rows, candidate}
use Rattle.candidates.proofs.Rows.{at_row}
use Rattle.weights.specs.Inner.{sides_of, side_bounds, BoundedRows}

-- ---- the sides on an axis
module _ {a b c p e : ℤ} (h : Withins side_bounds (a ∷ b ∷ c ∷ p ∷ e ∷ [])) where
  above : {x : ℤ} → Within coordinate_max x → Within offset_max (x -ℤ p)
  above hx = within-sub hx h.1.1.1.0

  low : {x : ℤ} → Within coordinate_max x → Within difference_max (x -ℤ p)
  low hx = within-weaken (lit≤ tt) (above hx)

  high : {x : ℤ} → Within coordinate_max x → Within difference_max (e -ℤ (x -ℤ p))
  high hx = within-weaken (lit≤ tt) (within-sub h.1.1.1.1.0 (above hx))

  low-bounded : PointWithin difference_max (sides_of a b c p e).low
  low-bounded = record { x = low h.0; y = low h.1.0; z = low h.1.1.0 }

  high-bounded : PointWithin difference_max (sides_of a b c p e).high
  high-bounded = record { x = high h.0; y = high h.1.0; z = high h.1.1.0 }

-- ---- all rows
unit-bounded : {r : Point} → nat_abs r.x + nat_abs r.y + nat_abs r.z ≤ 1 → PointWithin difference_max r
unit-bounded u = record { x = record { within = omega arith }; y = record { within = omega arith }; z = record { within = omega arith } }

module _ {t : Triangle} {p : Point} {e : ℤ} (h : BoundedTriangle t) (k : BoundedPoint p) (l : Within extent_max e) where
  abbrev On : Axis → Type 0
  On a = Withins side_bounds (a t.v0 ∷ a t.v1 ∷ a t.v2 ∷ a p ∷ e ∷ [])

  pub on-x : On x_of
  on-x = (h.v0.x, (h.v1.x, (h.v2.x, (k.x, (l, tt)))))

  pub on-y : On y_of
  on-y = (h.v0.y, (h.v1.y, (h.v2.y, (k.y, (l, tt)))))

  pub on-z : On z_of
  on-z = (h.v0.z, (h.v1.z, (h.v2.z, (k.z, (l, tt)))))

  pub rows-bounded : BoundedRows (rows t p (cube e))
  rows-bounded =
      at_row (PointWithin difference_max) (rows t p (cube e)) (unit-bounded (lit≤ tt)) (
        unit-bounded (lit≤ tt),
        (
          unit-bounded (lit≤ tt),
          (
            unit-bounded (lit≤ tt),
            (low-bounded on-x, (low-bounded on-y, (low-bounded on-z, (high-bounded on-x, (high-bounded on-y, (high-bounded on-z, tt)))))),
          ),
        ),
      )

pub candidate-bounded : (rs : List Point) → BoundedRows rs → (m : ℕ) → PointWithin normal_max (candidate rs m)
candidate-bounded rs h m =
    let a = h (m % 9) in
    let b = h (m / 9) in
    record {
      x = within-sub (within-mul a.y b.z) (within-mul a.z b.y);
      y = within-sub (within-mul a.z b.x) (within-mul a.x b.z);
      z = within-sub (within-mul a.x b.y) (within-mul a.y b.x);
    }
