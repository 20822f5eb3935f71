-- Columns of a grid's cells drawn into a map. The grid's axes are named u, v and w, in some turn; the columns run along w. Definitions only.
use Rattle.std.specs.Prelude.{Bool, ◌&&◌, ◌||◌, List, ◌≡◌, ℕ, ◌+◌, ◌*◌, ◌/◌, ◌%◌, ◌<◌, ◌≤◌, eqb, ltb, length}
use Rattle.grid.specs.declared.CellRange.{CellRange}
use Rattle.grid.specs.Range.{in_range}
use Rattle.map.specs.Map.{is_filled}
use Rattle.columns.specs.declared.Strides.{Strides}

-- The number of cell (i, j, k), the places of cell n, and how many cells there are.
abbrev pub number_of : Strides → (i j k : ℕ) → ℕ
number_of g i j k = g.su * i + g.sv * j + g.sw * k

abbrev pub u_of : Strides → ℕ → ℕ
u_of g n = n / g.su % g.nu

abbrev pub v_of : Strides → ℕ → ℕ
v_of g n = n / g.sv % g.nv

abbrev pub w_of : Strides → ℕ → ℕ
w_of g n = n / g.sw % g.nw

abbrev pub cells_of : Strides → ℕ
cells_of g = g.nu * g.nv * g.nw

-- The numbers fit together: each cell has a number below the count of cells, and its places are found back from the number; and they are small.
pub record Numbers (g : Strides) : Type 0 where
  pub back : (n : ℕ) → n < cells_of g → number_of g (u_of g n) (v_of g n) (w_of g n) ≡ n
  pub within : (i j k : ℕ) → i < g.nu → j < g.nv → k < g.nw → number_of g i j k < cells_of g
  pub u : (i j k : ℕ) → i < g.nu → j < g.nv → k < g.nw → u_of g (number_of g i j k) ≡ i
  pub v : (i j k : ℕ) → i < g.nu → j < g.nv → k < g.nw → v_of g (number_of g i j k) ≡ j
  pub w : (i j k : ℕ) → i < g.nu → j < g.nv → k < g.nw → w_of g (number_of g i j k) ≡ k
  pub su-most : g.su ≤ 4096
  pub sv-most : g.sv ≤ 4096
  pub sw-most : g.sw ≤ 4096
  pub nu-most : g.nu ≤ 64
  pub nv-most : g.nv ≤ 64
  pub nw-most : g.nw ≤ 64

-- Cell n lies in one of the columns, and passes the test.
unfoldable pub drawn : Strides → (cols : ℕ → ℕ → Bool) → (test : ℕ → ℕ → ℕ → Bool) → ℕ → Bool
drawn g cols test n = ltb n (cells_of g) && (cols (u_of g n) (v_of g n) && test (u_of g n) (v_of g n) (w_of g n))

-- `new` is `old` with these cells filled, and every other cell as it was.
pub record Draws (g : Strides) (cols : ℕ → ℕ → Bool) (test : ℕ → ℕ → ℕ → Bool) (old new : List ℕ) : Type 0 where
  pub len : length new ≡ length old
  pub cells : (n : ℕ) → is_filled new n ≡ (is_filled old n || drawn g cols test n)

-- One column; the columns of a row from `first` on and below `end`; those of a rectangle.
abbrev pub one_column : (i j : ℕ) → ℕ → ℕ → Bool
one_column i j a b = eqb a i && eqb b j

abbrev pub row_of : CellRange → (j : ℕ) → ℕ → ℕ → Bool
row_of r j a b = in_range r a && eqb b j

abbrev pub rectangle : (u v : CellRange) → ℕ → ℕ → Bool
rectangle u v a b = in_range u a && in_range v b

-- The cells of a run.
abbrev pub in_run : CellRange → ℕ → ℕ → ℕ → Bool
in_run r a b k = in_range r k

-- The cells from `first` on and below `end`.
abbrev pub range : (first end : ℕ) → CellRange
range first end = record { first = first; end = end }

-- What a run of column (i, j) asks: it lies in the grid, and a map of so many bytes has room for the grid's cells.
pub record RunReady (g : Strides) (bytes : ℕ) (i j : ℕ) (r : CellRange) : Type 0 where
  pub numbers : Numbers g
  pub room : cells_of g ≤ 8 * bytes
  pub i-in : i < g.nu
  pub j-in : j < g.nv
  pub ordered : r.first ≤ r.end
  pub end : r.end ≤ g.nw
