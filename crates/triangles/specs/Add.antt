-- What a triangle adds to a map: the cells whose boxes it overlaps. Definitions only.
use Rattle.std.specs.Prelude.{Bool, ◌&&◌, ◌||◌, List, ◌≡◌, ℕ, ◌*◌, ◌≤◌, ltb, length}
use Rattle.geometry.specs.declared.Triangle.{Triangle}
use Rattle.grid.specs.declared.Grid.{Grid}
use Rattle.grid.specs.declared.Lattice.{Lattice}
use Rattle.grid.specs.declared.BoxRange.{BoxRange}
use Rattle.grid.specs.Grid.{cell_count}
use Rattle.grid.specs.Usable.{OneTo64, UsableLattice}
use Rattle.overlap.specs.Cells.{overlaps_cell}
use Rattle.blocks.specs.Block.{SomeCells}
use Rattle.map.specs.Map.{is_filled}

-- `new` is `old` with those of the first cells filled that have the property, and every other cell as it was.
pub record Adds (cells : ℕ) (p : ℕ → Bool) (old new : List ℕ) : Type 0 where
  pub len : length new ≡ length old
  pub each : (n : ℕ) → is_filled new n ≡ (is_filled old n || (ltb n cells && p n))

abbrev pub AddsTriangle : Grid → Lattice → Triangle → (old new : List ℕ) → Type 0
AddsTriangle g l t = Adds (cell_count g) (overlaps_cell g l t)

-- A grid and its cells' boxes that a triangle can be filled into: from 1 to 64 cells a side, small numbers, and room in a map of so many bytes.
pub record Fillable (g : Grid) (l : Lattice) (bytes : ℕ) : Type 0 where
  pub x : OneTo64 g.nx
  pub y : OneTo64 g.ny
  pub z : OneTo64 g.nz
  pub boxes : UsableLattice l
  pub room : cell_count g ≤ 8 * bytes

-- The same, and a box of cells that is not empty.
pub record FillableBox (g : Grid) (l : Lattice) (bytes : ℕ) (b : BoxRange) : Type 0 where
  pub grid : Fillable g l bytes
  pub x : SomeCells g.nx b.x
  pub y : SomeCells g.ny b.y
  pub z : SomeCells g.nz b.z
