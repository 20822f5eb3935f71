-- The rows of a triangle and a box: what fits them is what reaches the box.
--     fits-reaches   weights that fit are weights by which the triangle reaches the box
--     reaches-fits   and the other way round
-- Assumes nothing.
use mathlib.Core.List.{List, [], ◌∷◌}
use mathlib.Core.Path.{◌≡◌, refl, sym, subst}
use Prim.Native.Nat.{ℕ, ◌+◌}
use native.Mathlib.Omega.{arith}
use lib.IntN.{ℤ, pos, negsuc}
use Rattle.integers.proofs.Laws.{NN, nn-pos, nn-zero, pos-lt, lt-pos}
use Rattle.integers.proofs.Expr.{Expr, var, num, ◌⊕◌, ◌⊗◌}
use Rattle.integers.proofs.Ring.{ring}
use Rattle.integers.proofs.Certificates.{nn, le, by-nn, by_le}
use Rattle.geometry.specs.declared.Point.{Point}
use Rattle.geometry.specs.declared.Triangle.{Triangle}
use Rattle.geometry.specs.Geometry.{point, dot, Axis, x_of, y_of, z_of}
use Rattle.reach.specs.Reaches.{weighted_sum, Between, ReachesBox}
use Rattle.reach.proofs.Vectors.{Vector, vector, dotᴱ, minusᴱ, totalᴱ, vec, ◌at◌}
use Rattle.candidates.specs.Candidates.{low_on, high_on, rows, Fits}
use Rattle.candidates.proofs.Rows.{Each, at_row}

-- ---- on an axis, the two sides say what the sides of the box do
module _ (t : Triangle) (p d : Point) (w0 w1 w2 : ℕ) where
  abbrev w : Point
  w = point (pos w0) (pos w1) (pos w2)

  module _ (a : Axis) where
    -- the corners, the weights, and the box
    abbrev ρ : List ℤ
    ρ = a t.v0 ∷ a t.v1 ∷ a t.v2 ∷ pos w0 ∷ pos w1 ∷ pos w2 ∷ a p ∷ a d ∷ []

    abbrev P : Expr
    P = var 6

    abbrev D : Expr
    D = var 7

    abbrev low : Vector
    low = minusᴱ (vec 0) (vector P P P)

    abbrev high : Vector
    high = minusᴱ (vector D D D) low

    low-row : Between p d (w0 + w1 + w2) a (weighted_sum t w0 w1 w2 a) → NN (dot (low_on t p a) w)
    low-row h = by-nn ρ (dotᴱ low (vec 1)) (le (P ⊗ totalᴱ (vec 1)) (dotᴱ (vec 1) (vec 0)) h.from) tt

    high-row : Between p d (w0 + w1 + w2) a (weighted_sum t w0 w1 w2 a) → NN (dot (high_on t p d a) w)
    high-row h = by-nn ρ (dotᴱ high (vec 1)) (le (dotᴱ (vec 1) (vec 0)) ((P ⊕ D) ⊗ totalᴱ (vec 1)) h.to) tt

    between : NN (dot (low_on t p a) w) → NN (dot (high_on t p d a) w) → Between p d (w0 + w1 + w2) a (weighted_sum t w0 w1 w2 a)
    between l h = record {
      from = by_le ρ (P ⊗ totalᴱ (vec 1)) (dotᴱ (vec 1) (vec 0)) (nn (dotᴱ low (vec 1)) l) tt;
      to = by_le ρ (dotᴱ (vec 1) (vec 0)) ((P ⊕ D) ⊗ totalᴱ (vec 1)) (nn (dotᴱ high (vec 1)) h) tt;
    }

-- ---- the first three rows are the weights
unit-x : (w : Point) → dot (point (pos 1) (pos 0) (pos 0)) w ≡ w.x
unit-x w = ring (w at []) (dotᴱ (vector (num 1) (num 0) (num 0)) (vec 0)) (var 0) tt

unit-y : (w : Point) → dot (point (pos 0) (pos 1) (pos 0)) w ≡ w.y
unit-y w = ring (w at []) (dotᴱ (vector (num 0) (num 1) (num 0)) (vec 0)) (var 1) tt

unit-z : (w : Point) → dot (point (pos 0) (pos 0) (pos 1)) w ≡ w.z
unit-z w = ring (w at []) (dotᴱ (vector (num 0) (num 0) (num 1)) (vec 0)) (var 2) tt

-- ---- what fits
-- the triangle reaches the box by the weights w
pub record ReachesBy (t : Triangle) (p d w : Point) : Type 0 where
  pub reaches : ReachesBox t p d
  pub by : w ≡ point (pos reaches.w0) (pos reaches.w1) (pos reaches.w2)

module _ {t : Triangle} {p d : Point} where
  pub fits-reaches : {w : Point} → Fits (rows t p d) w → ReachesBy t p d w
  fits-reaches {w} h =
      go w.x w.y w.z h (subst NN (unit-x w) (h.rows 0 (omega arith))) (subst NN (unit-y w) (h.rows 1 (omega arith))) (subst NN (unit-z w) (h.rows 2 (omega arith)))
    where
      go : (x y z : ℤ) → Fits (rows t p d) (point x y z) → NN x → NN y → NN z → ReachesBy t p d (point x y z)
      go (pos x) (pos y) (pos z) h hx hy hz = record {
        reaches = record {
          w0 = x;
          w1 = y;
          w2 = z;
          some = lt-pos h.some;
          x = between t p d x y z x_of (h.rows 3 (omega arith)) (h.rows 6 (omega arith));
          y = between t p d x y z y_of (h.rows 4 (omega arith)) (h.rows 7 (omega arith));
          z = between t p d x y z z_of (h.rows 5 (omega arith)) (h.rows 8 (omega arith));
        };
        by = refl;
      }
      go (pos x) (pos y) (negsuc z) h hx hy hz = absurd hz.le
      go (pos x) (negsuc y) z h hx hy hz = absurd hy.le
      go (negsuc x) y z h hx hy hz = absurd hx.le

  pub reaches-fits : (r : ReachesBox t p d) → Fits (rows t p d) (point (pos r.w0) (pos r.w1) (pos r.w2))
  reaches-fits r = record { rows = λ k l. at_row (λ r. NN (dot r w)) (rows t p d) nought values k; some = pos-lt r.some }
    where
      w : Point
      w = point (pos r.w0) (pos r.w1) (pos r.w2)

      nought : NN (dot (point (pos 0) (pos 0) (pos 0)) w)
      nought = nn-zero (ring (w at []) (dotᴱ (vector (num 0) (num 0) (num 0)) (vec 0)) (num 0) tt)

      low : (a : Axis) → Between p d (r.w0 + r.w1 + r.w2) a (weighted_sum t r.w0 r.w1 r.w2 a) → NN (dot (low_on t p a) w)
      low a h = low-row t p d r.w0 r.w1 r.w2 a h

      high : (a : Axis) → Between p d (r.w0 + r.w1 + r.w2) a (weighted_sum t r.w0 r.w1 r.w2 a) → NN (dot (high_on t p d a) w)
      high a h = high-row t p d r.w0 r.w1 r.w2 a h

      values : Each (λ r. NN (dot r w)) (rows t p d)
      values = (
        subst NN (sym (unit-x w)) (nn-pos r.w0),
        (
          subst NN (sym (unit-y w)) (nn-pos r.w1),
          (
            subst NN (sym (unit-z w)) (nn-pos r.w2),
            (low x_of r.x, (low y_of r.y, (low z_of r.z, (high x_of r.x, (high y_of r.y, (high z_of r.z, tt)))))),
          ),
        ),
      )
