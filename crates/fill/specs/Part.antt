-- Some of a file's records, and the cells that they fill. Definitions only.
use Rattle.std.specs.Prelude.{Bool, List, ℕ, ◌+◌}
use Rattle.geometry.specs.declared.Triangle.{Triangle}
use Rattle.grid.specs.Grid.{lattice_of}
use Rattle.map.specs.Map.{tabulate}
use Rattle.frame.specs.File.{record_of}
use Rattle.fill.specs.Fill.{grid_of, filled_by}

-- The triangles of so many records of a file, from number `first` on.
unfoldable pub triangles_from : List ℕ → (first count : ℕ) → List Triangle
triangles_from s first count = tabulate (λ i. (record_of s (first + i)).triangle) count

-- Cell n of the file's grid is filled by these records.
abbrev pub filled_from : List ℕ → (first count : ℕ) → ℕ → Bool
filled_from s first count = filled_by (grid_of s) (lattice_of (grid_of s)) (triangles_from s first count)
