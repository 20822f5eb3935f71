-- The words of demand 3: weights, reaches, and a point in common. Definitions only.
use Rattle.std.specs.Prelude.{◌≡◌, ℕ, ◌+◌, ◌<◌, ℤ, pos, ◌+ℤ◌, ◌*ℤ◌, ◌≤ℤ◌}
use Rattle.geometry.specs.declared.Point.{Point}
use Rattle.geometry.specs.declared.Triangle.{Triangle}
use Rattle.geometry.specs.Geometry.{Axis, x_of, y_of, z_of, cube}

-- The weighted sum, on an axis, of a triangle's three corners, or of a leg's two ends.
abbrev pub weighted_sum : Triangle → (w0 w1 w2 : ℕ) → Axis → ℤ
weighted_sum t w0 w1 w2 a = pos w0 *ℤ a t.v0 +ℤ pos w1 *ℤ a t.v1 +ℤ pos w2 *ℤ a t.v2

abbrev pub weighted_sum_leg : (a b : Point) → (w0 w1 : ℕ) → Axis → ℤ
weighted_sum_leg a b w0 w1 c = pos w0 *ℤ c a +ℤ pos w1 *ℤ c b

-- On an axis, a weighted sum of weights adding to w lies from p × w to (p + d) × w, both included.
pub record Between (p d : Point) (w : ℕ) (a : Axis) (sum : ℤ) : Type 0 where
  pub from : (a p *ℤ pos w) ≤ℤ sum
  pub to : sum ≤ℤ ((a p +ℤ a d) *ℤ pos w)

-- A triangle reaches a box: some weights, whole, none negative, not all zero, put the weighted sum between the box's sides on every
-- axis. In the field's terms, the closed triangle and the closed box have a point in common.
pub record ReachesBox (t : Triangle) (p d : Point) : Type 0 where
  pub w0 : ℕ
  pub w1 : ℕ
  pub w2 : ℕ
  pub some : 0 < w0 + w1 + w2
  pub x : Between p d (w0 + w1 + w2) x_of (weighted_sum t w0 w1 w2 x_of)
  pub y : Between p d (w0 + w1 + w2) y_of (weighted_sum t w0 w1 w2 y_of)
  pub z : Between p d (w0 + w1 + w2) z_of (weighted_sum t w0 w1 w2 z_of)

-- A leg reaches a box: the same with the weights of its two ends.
pub record LegReachesBox (a b : Point) (p d : Point) : Type 0 where
  pub w0 : ℕ
  pub w1 : ℕ
  pub some : 0 < w0 + w1
  pub x : Between p d (w0 + w1) x_of (weighted_sum_leg a b w0 w1 x_of)
  pub y : Between p d (w0 + w1) y_of (weighted_sum_leg a b w0 w1 y_of)
  pub z : Between p d (w0 + w1) z_of (weighted_sum_leg a b w0 w1 z_of)

-- A triangle, or a leg, reaches the cell with lowest corner p and edge s.
abbrev pub Reaches : Triangle → Point → ℤ → Type 0
Reaches t p s = ReachesBox t p (cube s)

abbrev pub LegReaches : (a b : Point) → Point → ℤ → Type 0
LegReaches a b p s = LegReachesBox a b p (cube s)

-- A leg from a to b and a triangle t have a point in common: weights for the leg, adding to W, and for the triangle, adding to V, such
-- that on every axis V times the leg's weighted sum is W times the triangle's.
pub record CommonOn (a b : Point) (t : Triangle) (l0 l1 w0 w1 w2 : ℕ) (c : Axis) : Type 0 where
  pub same : pos (w0 + w1 + w2) *ℤ weighted_sum_leg a b l0 l1 c ≡ pos (l0 + l1) *ℤ weighted_sum t w0 w1 w2 c

pub record CommonPoint (a b : Point) (t : Triangle) : Type 0 where
  pub l0 : ℕ
  pub l1 : ℕ
  pub w0 : ℕ
  pub w1 : ℕ
  pub w2 : ℕ
  pub some-leg : 0 < l0 + l1
  pub some-triangle : 0 < w0 + w1 + w2
  pub x : CommonOn a b t l0 l1 w0 w1 w2 x_of
  pub y : CommonOn a b t l0 l1 w0 w1 w2 y_of
  pub z : CommonOn a b t l0 l1 w0 w1 w2 z_of
