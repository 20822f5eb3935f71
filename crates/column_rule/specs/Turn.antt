-- The axes taken in turn: y, z, x. Columns along x are columns along the third axis after one turn, and columns along y after two. Definitions only.
use Rattle.geometry.specs.declared.Point.{Point}
use Rattle.geometry.specs.declared.Triangle.{Triangle}
use Rattle.geometry.specs.Geometry.{point}
use Rattle.grid.specs.declared.Lattice.{Lattice}
use Rattle.grid.specs.declared.BoxRange.{BoxRange}

abbrev pub turn_point : Point → Point
turn_point p = point p.y p.z p.x

abbrev pub turn_triangle : Triangle → Triangle
turn_triangle t = record { v0 = turn_point t.v0; v1 = turn_point t.v1; v2 = turn_point t.v2 }

abbrev pub turn_lattice : Lattice → Lattice
turn_lattice l = record { first = turn_point l.first; step = l.step; extent = l.extent }

abbrev pub turn_box : BoxRange → BoxRange
turn_box b = record { x = b.y; y = b.z; z = b.x }
