-- What the search of a block of cells asks and answers. Definitions only; no public promise cites them.
use Rattle.std.specs.Prelude.{Bool, true, false, ◌&&◌, List, ◌≡◌, ℕ, ◌+◌, ◌<◌, ◌≤◌, Option, Some, None}
use Rattle.grid.specs.declared.Grid.{Grid}
use Rattle.grid.specs.declared.BoxRange.{BoxRange}
use Rattle.grid.specs.Cells.{x_of_cell, y_of_cell, z_of_cell}
use Rattle.grid.specs.Range.{in_range}
use Rattle.map.specs.Map.{is_filled}
use Rattle.legs.specs.declared.Slabs.{Slabs}
use Rattle.legs.specs.Slab.{row_holds, cell_holds}

-- Cell (i, j, k) lies in the block and in the slabs; cell n is looked for: it is filled, and does.
abbrev pub in_block : Slabs → BoxRange → (i j k : ℕ) → Bool
in_block s b i j k = in_range b.x i && in_range b.y j && in_range b.z k && row_holds s k j && cell_holds s i j k

abbrev pub wanted : (filled : ℕ → Bool) → Grid → Slabs → BoxRange → ℕ → Bool
wanted filled g s b n = filled n && in_block s b (x_of_cell g.nx n) (y_of_cell g.nx g.ny n) (z_of_cell g.nx g.ny n)

-- What is found is the lowest number below c with the property; or nothing, where there is none.
abbrev pub Lowest : (ℕ → Bool) → ℕ → Option ℕ → Type 0
Lowest p c (Some n) = (n < c) × (p n ≡ true) × ((m : ℕ) → m < n → p m ≡ false)
Lowest p c None = (m : ℕ) → m < c → p m ≡ false

-- A block of the grid's cells.
pub record InGrid (g : Grid) (b : BoxRange) : Type 0 where
  pub x-from : b.x.first ≤ b.x.end
  pub y-from : b.y.first ≤ b.y.end
  pub x : b.x.end ≤ g.nx
  pub y : b.y.end ≤ g.ny
  pub z : b.z.end ≤ g.nz

-- r is the first filled cell of a row, from `first` on and below `end`; or `end`. The row's cells are numbered from `row`.
pub record NextCell (map : List ℕ) (row first end r : ℕ) : Type 0 where
  pub from : first ≤ r
  pub to : r ≤ end
  pub skipped : (i : ℕ) → i < r → first ≤ i → is_filled map (row + i) ≡ false
  pub stopped : r < end → is_filled map (row + r) ≡ true
