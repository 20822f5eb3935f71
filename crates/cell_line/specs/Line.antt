-- Where a cell is, as a line of text. Definitions only.
use Rattle.std.specs.Prelude.{List, [], ◌∷◌, ◌++◌, ℕ, ◌+◌, ℤ, pos, ◌+ℤ◌, ◌*ℤ◌}
use Rattle.grid.specs.declared.Grid.{Grid}
use Rattle.grid.specs.Cells.{x_of_cell, y_of_cell, z_of_cell}
use Rattle.text.specs.Text.{spaced, line_feed}

-- Cell i of an axis: its place, and the lower and the upper end of its box.
abbrev pub axis_numbers : (origin : ℤ) (i : ℕ) (edge : ℤ) → List ℤ
axis_numbers origin i edge = pos i ∷ (origin +ℤ pos i *ℤ edge) ∷ (origin +ℤ pos (i + 1) *ℤ edge) ∷ []

-- "CELL i x x j y y k z z"
abbrev pub axes_line : (edge x y z : ℤ) (i j k : ℕ) → List ℕ
axes_line e x y z i j k = (67 ∷ 69 ∷ 76 ∷ 76 ∷ 32 ∷ []) ++ spaced (axis_numbers x i e) ++ spaced (axis_numbers y j e) ++ spaced (axis_numbers z k e) ++ line_feed

-- The same of cell n of a grid.
abbrev pub box_line : Grid → ℕ → List ℕ
box_line g n =
    let o = g.origin in
    axes_line g.edge o.x o.y o.z (x_of_cell g.nx n) (y_of_cell g.nx g.ny n) (z_of_cell g.nx g.ny n)
