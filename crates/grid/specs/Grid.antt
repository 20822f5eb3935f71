-- A grid of cubic cells (voxels), the boxes of its cells, and the points inside. Definitions only. The code's structs are the records here: a Grid has nx × ny × nz
-- cells with edge `edge`, from the point `origin` on; a Lattice, the boxes of a grid's cells, has the lowest corner of the first box, how far apart the boxes of
-- neighbours begin (`step`), and how large a box is (`extent`).
use Rattle.std.specs.Prelude.{Bool, ◌&&◌, ℕ, ◌*◌, ℤ, pos, ◌+ℤ◌, ◌*ℤ◌}
use Rattle.std.specs.Int.Signed.{le_z}
use Rattle.geometry.specs.declared.Point.{Point}
use Rattle.geometry.specs.Geometry.{point, Axis, x_of, y_of, z_of}
use Rattle.grid.specs.Cells.{x_of_cell, y_of_cell, z_of_cell}
use Rattle.grid.specs.declared.Grid.{Grid}
use Rattle.grid.specs.declared.Lattice.{Lattice}

-- How many cells there are.
abbrev pub cell_count : Grid → ℕ
cell_count g = g.nx * g.ny * g.nz

-- The lowest corner of the box of cell (i, j, k), and of cell n.
abbrev pub box_corner : Lattice → (i j k : ℕ) → Point
box_corner l i j k =
    point (l.first.x +ℤ pos i *ℤ l.step) (l.first.y +ℤ pos j *ℤ l.step) (l.first.z +ℤ pos k *ℤ l.step)

abbrev pub box_of_cell : Grid → Lattice → ℕ → Point
box_of_cell g l n = box_corner l (x_of_cell g.nx n) (y_of_cell g.nx g.ny n) (z_of_cell g.nx g.ny n)

-- The boxes that are the cells themselves: a cell's box has the cell's edge, and so its neighbour begins where it ends.
abbrev pub lattice_of : Grid → Lattice
lattice_of g = record { first = g.origin; step = g.edge; extent = g.edge }

-- The lowest corner of cell (i, j, k), and of cell n.
abbrev pub cell_corner : Grid → (i j k : ℕ) → Point
cell_corner g = box_corner (lattice_of g)

abbrev pub corner_of : Grid → ℕ → Point
corner_of g = box_of_cell g (lattice_of g)

-- The size of the whole grid on each axis.
abbrev pub grid_extent : Grid → Point
grid_extent g = point (pos g.nx *ℤ g.edge) (pos g.ny *ℤ g.edge) (pos g.nz *ℤ g.edge)

-- A point lies in the grid's closed box. On an axis: from the origin to the far end, both included.
abbrev pub inside_on : (origin extent at : ℤ) → Bool
inside_on origin extent at = le_z origin at && le_z at (origin +ℤ extent)

abbrev pub inside_axis : Grid → Point → Axis → Bool
inside_axis g p a = inside_on (a g.origin) (a (grid_extent g)) (a p)

unfoldable pub inside : Grid → Point → Bool
inside g p = inside_axis g p x_of && (inside_axis g p y_of && inside_axis g p z_of)
