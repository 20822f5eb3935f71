-- Points inside a grid, as the theorems take them. Definitions only; no public promise cites them.
use Rattle.std.specs.Prelude.{◌+ℤ◌, ◌≤ℤ◌}
use Rattle.geometry.specs.declared.Point.{Point}
use Rattle.geometry.specs.Geometry.{Axis, x_of, y_of, z_of}
use Rattle.grid.specs.declared.Grid.{Grid}
use Rattle.grid.specs.Grid.{grid_extent}

-- A point lies in the grid's closed box.
pub record InsideOn (g : Grid) (q : Point) (c : Axis) : Type 0 where
  pub from : c g.origin ≤ℤ c q
  pub to : c q ≤ℤ (c g.origin +ℤ c (grid_extent g))

pub record InsideGrid (g : Grid) (q : Point) : Type 0 where
  pub x : InsideOn g q x_of
  pub y : InsideOn g q y_of
  pub z : InsideOn g q z_of
