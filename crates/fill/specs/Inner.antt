-- What records of a file add to a map. The contract of a leaf cites it; no public promise does.
use Rattle.std.specs.Prelude.{List, ℕ}
use Rattle.grid.specs.Grid.{cell_count}
use Rattle.triangles.specs.Add.{Adds}
use Rattle.fill.specs.Fill.{grid_of}
use Rattle.fill.specs.Part.{filled_from}

-- The cells that these records fill are added, and every other cell is as it was.
abbrev pub AddsRecords : List ℕ → (first count : ℕ) → (old new : List ℕ) → Type 0
AddsRecords s first count = Adds (cell_count (grid_of s)) (filled_from s first count)
