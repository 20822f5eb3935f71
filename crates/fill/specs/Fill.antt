-- The obstacles of a frame file, the cells that they fill, and what a fill answers and leaves. Definitions only.
use Rattle.std.specs.Prelude.{Bool, false, ◌||◌, List, [], ◌∷◌, ◌++◌, ℕ, leb, length, drop}
use Rattle.geometry.specs.declared.Triangle.{Triangle}
use Rattle.refusal.specs.Limit.{Answer, unless_refused}
use Rattle.refusal.specs.Questions.{Question, ◌asks◌, answered}
use Rattle.grid.specs.declared.Grid.{Grid}
use Rattle.grid.specs.declared.Lattice.{Lattice}
use Rattle.grid.specs.Grid.{cell_count, lattice_of}
use Rattle.map.specs.Map.{map_length, count_below, tabulate, map_of}
use Rattle.overlap.specs.Cells.{overlaps_cell}
use Rattle.frame.specs.File.{header_of, record_of}
use Rattle.frame.specs.Questions.{file_questions}

-- ---- the cells that are filled
-- The obstacles (steel): the triangles of a file. All three kinds count alike.
unfoldable pub obstacles : List ℕ → List Triangle
obstacles s = tabulate (λ i. (record_of s i).triangle) (header_of s).count

-- Some item of the list has the property.
unfoldable pub any_of : {A : Type 0} → (A → Bool) → List A → Bool
any_of p [] = false
any_of p (x ∷ xs) = p x || any_of p xs

-- Cell n of the grid g, whose cells have the boxes l, is filled: the overlap rule holds for it and some triangle.
abbrev pub filled_by : Grid → Lattice → List Triangle → ℕ → Bool
filled_by g l ts n = any_of (λ t. overlaps_cell g l t n) ts

-- The file's grid; and cell n of it is filled.
abbrev pub grid_of : List ℕ → Grid
grid_of s = (header_of s).grid

abbrev pub filled_in : List ℕ → ℕ → Bool
filled_in s = filled_by (grid_of s) (lattice_of (grid_of s)) (obstacles s)

-- ---- the answer, and the bytes afterwards
-- Question 8: is the map buffer, of len bytes, at least as long as the map of the grid g?
abbrev pub map_question : Grid → ℕ → Question
map_question g len = 8 asks leb (map_length (cell_count g)) len

-- Questions 1 to 8, in turn, of a file s and a buffer of len bytes.
abbrev pub fill_questions : List ℕ → ℕ → List Question
fill_questions s len = file_questions s ++ (map_question (grid_of s) len ∷ [])

-- A fill gives the number of filled cells.
unfoldable pub filling : (file map : List ℕ) → Answer ℕ
filling s m = answered (fill_questions s (length m)) (count_below (filled_in s) (cell_count (grid_of s)))

-- The fill replaces the map by that of the file. The bytes behind it are what they were.
unfoldable pub filled_bytes : (file map : List ℕ) → List ℕ
filled_bytes s m =
    let cells = cell_count (grid_of s) in
    unless_refused (filling s m) (map_of (filled_in s) cells ++ drop (map_length cells) m) m
