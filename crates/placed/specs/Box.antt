-- A triangle's box of cells: whether it has none, and whether it is one cell wide on an axis. Definitions only.
use Rattle.std.specs.Prelude.{Bool, cond, Option, Some, None, ◌&&◌, ◌||◌, List, [], ◌∷◌, ℕ, ◌+◌, ◌<◌, leb, eqb, ℤ, pos, ◌+ℤ◌, ◌*ℤ◌}
use Rattle.std.specs.Int.Signed.{le_z}
use Rattle.std.specs.Int.{int_min, int_max}
use Rattle.geometry.specs.Bounds.{coordinate_max, step_max, extent_max, each}
use Rattle.grid.specs.declared.BoxRange.{BoxRange}
use Rattle.grid.specs.declared.CellRange.{CellRange}
use Rattle.geometry.specs.declared.Triangle.{Triangle}
use Rattle.geometry.specs.Geometry.{Axis, x_of, y_of, z_of}
use Rattle.grid.specs.declared.Lattice.{Lattice}
use Rattle.placed.specs.declared.Along.{Along}
use Rattle.placed.specs.declared.Along.TheVariants.{X, Y, Z}

-- On some axis the box has no cell.
abbrev pub is_empty : BoxRange → Bool
is_empty b = leb b.x.end b.x.first || leb b.y.end b.y.first || leb b.z.end b.z.first

-- On an axis, the range has one cell, and the triangle's three coordinates lie within the cell's box.
abbrev pub is_one : CellRange → (origin step extent a0 a1 a2 : ℤ) → Bool
is_one r origin step extent a0 a1 a2 =
    let low = origin +ℤ pos r.first *ℤ step in
    eqb r.end (r.first + 1) && le_z low (int_min (int_min a0 a1) a2) && le_z (int_max (int_max a0 a1) a2) (low +ℤ extent)

-- The numbers that this asks for: the lattice's origin, step and extent, and three corners.
abbrev pub one_bounds : List ℕ
one_bounds = coordinate_max ∷ step_max ∷ extent_max ∷ each coordinate_max 3 []

-- The triangle stays within one cell on an axis.
abbrev pub stays : Lattice → Triangle → CellRange → Axis → Bool
stays l t r a = is_one r (a l.first) l.step l.extent (a t.v0) (a t.v1) (a t.v2)

-- The axis of a row of cells, by whether the triangle stays within one cell on x, y and z: the one that it need not stay on, and z before the others; none
-- where it stays on fewer than two.
abbrev pub axis_of : (x y z : Bool) → Option Along
axis_of x y z = cond x (cond y (Some Z) (cond z (Some Y) None)) (cond y (cond z (Some X) None) None)

abbrev pub row_axis : Lattice → BoxRange → Triangle → Option Along
row_axis l b t = axis_of (stays l t b.x x_of) (stays l t b.y y_of) (stays l t b.z z_of)

-- What this asks: the first cell of the box on each axis is one of a grid.
pub record Firsts (b : BoxRange) : Type 0 where
  pub x : b.x.first < 64
  pub y : b.y.first < 64
  pub z : b.z.first < 64
