-- The overlap rule of a triangle and a cell's box, where the boxes of the cells are those of a lattice. Definitions only.
use Rattle.std.specs.Prelude.{Bool, ℕ}
use Rattle.geometry.specs.declared.Triangle.{Triangle}
use Rattle.geometry.specs.Geometry.{cube}
use Rattle.grid.specs.declared.Grid.{Grid}
use Rattle.grid.specs.declared.Lattice.{Lattice}
use Rattle.grid.specs.Grid.{box_of_cell}
use Rattle.overlap.specs.Rule.{overlaps_box}

-- The triangle overlaps the box of cell n of the grid g, whose cells have the boxes l.
abbrev pub overlaps_cell : Grid → Lattice → Triangle → ℕ → Bool
overlaps_cell g l t n = overlaps_box t (box_of_cell g l n) (cube l.extent)
