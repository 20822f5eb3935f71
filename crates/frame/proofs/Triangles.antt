-- How large the numbers of a record's triangle are.
--     triangle-within      by the width of a coordinate
--     triangle-bounded     so they can be computed with
-- Assumes nothing.
use mathlib.Core.List.{List}
use Prim.Native.Nat.{ℕ, ◌^◌}
use lib.Dec.{lit≤}
use Rattle.integers.proofs.Bounds.{within-weaken}
use Rattle.geometry.specs.Bounds.{PointWithin, TriangleWithin, BoundedPoint, BoundedTriangle}
use Rattle.geometry.specs.declared.Point.{Point}
use Rattle.layout.specs.Layout.{version1}
use Rattle.layout.specs.Values.{from_record}
use Rattle.layout.proofs.Bounds.{record-within}
use Rattle.frame.specs.File.{record_of}

pub triangle-within : (s : List ℕ) (i : ℕ) → TriangleWithin (2 ^ 13) (record_of s i).triangle
triangle-within s i = record-within (from_record version1 s i)

point-bounded : {p : Point} → PointWithin (2 ^ 13) p → BoundedPoint p
point-bounded h = record { x = within-weaken (lit≤ tt) h.x; y = within-weaken (lit≤ tt) h.y; z = within-weaken (lit≤ tt) h.z }

pub triangle-bounded : (s : List ℕ) (i : ℕ) → BoundedTriangle (record_of s i).triangle
triangle-bounded s i = let t = triangle-within s i in record { v0 = point-bounded t.v0; v1 = point-bounded t.v1; v2 = point-bounded t.v2 }
