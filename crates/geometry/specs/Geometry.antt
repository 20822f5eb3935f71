-- Points, vectors, triangles and boxes with whole-number coordinates. Definitions only. The code's structs Point and Triangle are the records here: the fields of a
-- struct of i64 are whole numbers.
use Rattle.std.specs.Prelude.{ℤ, ◌+ℤ◌, ◌-ℤ◌, ◌*ℤ◌}
use Rattle.geometry.specs.declared.Point.{Point}
use Rattle.geometry.specs.declared.Triangle.{Triangle}

abbrev pub point : ℤ → ℤ → ℤ → Point
point x y z = record { x = x; y = y; z = z }

-- The vector from b to a.
abbrev pub minus : Point → Point → Point
minus a b = point (a.x -ℤ b.x) (a.y -ℤ b.y) (a.z -ℤ b.z)

-- The dot product and the cross product.
abbrev pub dot : Point → Point → ℤ
dot a b = a.x *ℤ b.x +ℤ a.y *ℤ b.y +ℤ a.z *ℤ b.z

abbrev pub cross : Point → Point → Point
cross a b = point (a.y *ℤ b.z -ℤ a.z *ℤ b.y) (a.z *ℤ b.x -ℤ a.x *ℤ b.z) (a.x *ℤ b.y -ℤ a.y *ℤ b.x)

abbrev pub triangle : (v0 v1 v2 : Point) → Triangle
triangle v0 v1 v2 = record { v0 = v0; v1 = v1; v2 = v2 }

-- A leg (segment) from a to b is the triangle a, b, b.
abbrev pub leg : Point → Point → Triangle
leg a b = triangle a b b

-- An axis, as the way to read a point's coordinate on it.
abbrev pub Axis : Type 0
Axis = Point → ℤ

abbrev pub x_of : Axis
x_of q = q.x

abbrev pub y_of : Axis
y_of q = q.y

abbrev pub z_of : Axis
z_of q = q.z

-- A box has a lowest corner p and an extent d, its size on each axis. A cell (voxel) is a cube: its extent is its edge s on each axis.
abbrev pub cube : ℤ → Point
cube s = point s s s
