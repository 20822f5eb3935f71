-- Grids and lattices whose numbers can be computed with. Definitions only.
use Rattle.std.specs.Prelude.{ℕ, ◌<◌, ◌≤◌, pos, ◌≤ℤ◌, ◌<ℤ◌}
use Rattle.integers.specs.Within.{Within}
use Rattle.geometry.specs.Bounds.{coordinate_max, step_max, extent_max, PointWithin, BoundedPoint}
use Rattle.grid.specs.declared.Grid.{Grid}
use Rattle.grid.specs.declared.Lattice.{Lattice}

-- A side of 1 to 64 cells.
pub record OneTo64 (n : ℕ) : Type 0 where
  pub some : 0 < n
  pub most : n ≤ 64

-- Sides of 1 to 64 cells, coordinates of the origin up to C, and an edge up to E.
pub record GridWithin (C E : ℕ) (g : Grid) : Type 0 where
  pub x : OneTo64 g.nx
  pub y : OneTo64 g.ny
  pub z : OneTo64 g.nz
  pub origin : PointWithin C g.origin
  pub edge : Within E g.edge

-- A usable grid: the same, and an edge above 0. With the bounds that the geometry allows it is one that a triangle can be filled into, and a leg tested in.
pub record UsableGrid (C E : ℕ) (g : Grid) : Type 0 where
  pub within : GridWithin C E g
  pub positive : pos 0 <ℤ g.edge

abbrev pub BoundedGrid : Grid → Type 0
BoundedGrid = UsableGrid coordinate_max step_max

-- A usable lattice: its numbers are small, its boxes do not begin at one place, and no box is smaller than a point.
pub record UsableLattice (l : Lattice) : Type 0 where
  pub first : BoundedPoint l.first
  pub positive : pos 0 <ℤ l.step
  pub step : Within step_max l.step
  pub extent : Within extent_max l.extent
  pub thick : pos 0 ≤ℤ l.extent
