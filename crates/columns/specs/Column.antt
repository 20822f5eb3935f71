-- The test of a cell by its column, on a triangle's forms. Definitions only.
use Rattle.std.specs.Prelude.{Bool, ◌&&◌, List, ℕ, ◌*◌, ◌≤◌, ℤ, pos}
use Rattle.integers.specs.Within.{Within}
use Rattle.geometry.specs.Bounds.{index_max}
use Rattle.grid.specs.declared.CellRange.{CellRange}
use Rattle.grid.specs.Range.{in_range}
use Rattle.forms.specs.declared.bounded.Forms.{Forms}
use Rattle.forms.specs.Forms.{edge_at, plane_at}
use Rattle.column_rule.specs.Column.{uv_of, square_passes, cell_along}
use Rattle.columns.specs.declared.ready.Columns.{Columns}
use Rattle.columns.specs.Draw.{cells_of, Draws}

-- The cells of the range w that pass in the column (u, v), where x0, x1 and x2 are the edges' forms of uv there.
abbrev pub run_cells : Forms → CellRange → (u v x0 x1 x2 : ℤ) → ℕ → ℕ → ℕ → Bool
run_cells l w u v x0 x1 x2 a b k = in_range w k && cell_along (plane_at l) (edge_at l 0) (edge_at l 1) (edge_at l 2) u v x0 x1 x2 k

-- The form of uv of edge m at column (i, j). The column passes: no edge rules out its square. Cell (i, j, k) passes, where the cells of a column range over w.
abbrev pub value_at : Forms → (m i j : ℕ) → ℤ
value_at l m i j = uv_of (edge_at l m) (pos i) (pos j)

abbrev pub column_passes : Forms → (i j : ℕ) → Bool
column_passes l i j = square_passes (value_at l 0 i j) (value_at l 1 i j) (value_at l 2 i j)

unfoldable pub cell_passes : Forms → CellRange → (i j k : ℕ) → Bool
cell_passes l w i j k = column_passes l i j && run_cells l w (pos i) (pos j) (value_at l 0 i j) (value_at l 1 i j) (value_at l 2 i j) i j k

-- ---- what the functions ask
-- A run of a column, and the column's numbers.
pub record RunIn (run : CellRange) (u v : ℤ) : Type 0 where
  pub ordered : run.first ≤ run.end
  pub most : run.end ≤ 64
  pub u-in : Within index_max u
  pub v-in : Within index_max v

-- Room in the map, and a hint in the range of cells.
pub record ColumnsReady (c : Columns) (bytes : ℕ) (hint : ℕ) : Type 0 where
  pub room : cells_of c.g ≤ 8 * bytes
  pub low : c.w.first ≤ hint
  pub high : hint ≤ c.w.end

-- A range of columns on an axis with n of them.
pub record RowsIn (r : CellRange) (n : ℕ) : Type 0 where
  pub ordered : r.first ≤ r.end
  pub end : r.end ≤ n

-- ---- what they do: columns are drawn, and the hint for the next lies in the range
pub record DrawsColumns (c : Columns) (cols : ℕ → ℕ → Bool) (old new : List ℕ) (r : ℕ) : Type 0 where
  pub draws : Draws c.g cols (cell_passes c.forms.now c.w) old new
  pub low : c.w.first ≤ r
  pub high : r ≤ c.w.end
