-- How large the numbers may be, so that no sum and no product of them leaves 64 bits. Definitions only.
use Rattle.std.specs.Prelude.{List, ◌∷◌, ℕ, zero, suc, ◌^◌}
use Rattle.integers.specs.Within.{Within}
use Rattle.geometry.specs.declared.Point.{Point}
use Rattle.geometry.specs.declared.Triangle.{Triangle}

-- A coordinate, one measured from a grid's origin, the difference of two such, a component of a normal, how far apart the boxes of neighbours begin, how large a box is, and a cell's number on an axis.
abbrev pub coordinate_max : ℕ
coordinate_max = 2 ^ 18

abbrev pub offset_max : ℕ
offset_max = 2 ^ 19

abbrev pub difference_max : ℕ
difference_max = 2 ^ 20

abbrev pub normal_max : ℕ
normal_max = 2 ^ 41

abbrev pub step_max : ℕ
step_max = 2 ^ 13

abbrev pub extent_max : ℕ
extent_max = 2 ^ 14

abbrev pub index_max : ℕ
index_max = 64

-- Several numbers with one bound, and further numbers.
abbrev pub each : ℕ → ℕ → List ℕ → List ℕ
each b zero bs = bs
each b (suc n) bs = b ∷ each b n bs

-- ---- points and triangles
pub record PointWithin (B : ℕ) (p : Point) : Type 0 where
  pub x : Within B p.x
  pub y : Within B p.y
  pub z : Within B p.z

pub record TriangleWithin (B : ℕ) (t : Triangle) : Type 0 where
  pub v0 : PointWithin B t.v0
  pub v1 : PointWithin B t.v1
  pub v2 : PointWithin B t.v2

abbrev pub BoundedPoint : Point → Type 0
BoundedPoint = PointWithin coordinate_max

abbrev pub BoundedTriangle : Triangle → Type 0
BoundedTriangle = TriangleWithin coordinate_max
