-- A worked example, by computation on the definitions: where cell 11 of a grid is, with 2 × 3 cells in a layer, edge 5 and origin (10, 20, 30). Assumes nothing.
use mathlib.Core.List.{[], ◌∷◌, ◌++◌}
use mathlib.Core.Path.{◌≡◌, refl}
use lib.IntN.{pos}
use Rattle.geometry.specs.Geometry.{point}
use Rattle.grid.specs.declared.Grid.{Grid}
use Rattle.text.specs.Text.{digits, decimal, line_feed, spaced}
use Rattle.cell_line.specs.Line.{box_line}

abbrev g : Grid
g = record { nx = 2; ny = 3; nz = 2; edge = pos 5; origin = point (pos 10) (pos 20) (pos 30) }

-- "CELL ", then the place and both ends on each axis
pub cell-11 : box_line g 11
    ≡ (67 ∷ 69 ∷ 76 ∷ 76 ∷ 32 ∷ []) ++ spaced (pos 1 ∷ pos 15 ∷ pos 20 ∷ pos 2 ∷ pos 30 ∷ pos 35 ∷ pos 1 ∷ pos 35 ∷ pos 40 ∷ []) ++ line_feed
unfolding digits decimal spaced
cell-11 = refl
