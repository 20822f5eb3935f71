-- The bar behind a cell: the lowest triangle of a frame file that reaches a cell of its grid, or none. Definitions only.
use Rattle.std.specs.Prelude.{Option, Some, None, Result, Ok, Err, IfOk, Bool, cond, List, [], ◌∷◌, ◌++◌, ℕ, zero, suc, ◌<◌, ◌^◌, ltb}
use Rattle.geometry.specs.declared.Point.{Point}
use Rattle.geometry.specs.Geometry.{cube}
use Rattle.refusal.specs.Limit.{Answer, gives, said_limit}
use Rattle.refusal.specs.Questions.{Question, ◌asks◌, answered}
use Rattle.grid.specs.declared.Grid.{Grid}
use Rattle.grid.specs.Grid.{cell_count, box_of_cell, lattice_of}
use Rattle.overlap.specs.Cells.{overlaps_cell}
use Rattle.reach.specs.Reaches.{ReachesBox}
use Rattle.frame.specs.File.{header_of, record_of}
use Rattle.frame.specs.Questions.{file_questions}
use Rattle.weights.specs.declared.Weights.{Weights}
use Rattle.weights.specs.Weights.{Weighs}
use Rattle.refusal.specs.declared.Limit.{Limit}
use Rattle.service.specs.declared.Bar.{Bar}

-- ---- the lowest triangle
-- Of n records, the lowest that has the property: the one found before, and else the last where it has it.
unfoldable pub lowest : (ℕ → Bool) → ℕ → Option ℕ
lowest has zero = None
lowest has (suc n) = elim (lowest has n) [ Some i ↦ Some i | None ↦ cond (has n) (Some n) None ]

-- ---- the answer
-- Question 16: is the cell's number below the number of cells?
abbrev pub cell_question : Grid → ℕ → Question
cell_question g n = 16 asks ltb n (cell_count g)

-- Questions 1 to 7, then 16, of a file s and a cell n.
abbrev pub bar_questions : List ℕ → ℕ → List Question
bar_questions s n = file_questions s ++ (cell_question (header_of s).grid n ∷ [])

-- The call gives the lowest record whose triangle overlaps the cell's box, a bar, or none: the cell is clear. The boxes of the cells are the cells themselves.
unfoldable pub behind : (file : List ℕ) (cell : ℕ) → Answer (Option ℕ)
behind s n =
    let g = (header_of s).grid in
    answered (bar_questions s n) (lowest (λ i. overlaps_cell g (lattice_of g) (record_of s i).triangle n) (header_of s).count)

-- What the code's answer says. Of weights it says nothing: other weights would serve.
abbrev pub said_bar : Result (Option Bar) Limit → Answer (Option ℕ)
said_bar (Ok None) = gives None
said_bar (Ok (Some b)) = gives (Some b.index)
said_bar (Err l) = said_limit l

-- ---- what it means, in the words of demand 3
-- None of the triangles of the first n records reaches the box.
abbrev pub NoneReaches : List ℕ → (n : ℕ) (p d : Point) → Type 0
NoneReaches s n p d = (i : ℕ) → i < n → ReachesBox (record_of s i).triangle p d → ⊥

-- Record i is the lowest of `count` whose triangle reaches the box, and the weights show it: whole, none negative, adding to at least 1 and less than 2^30, with the
-- weighted point in the closed box.
pub record ShowsBar (s : List ℕ) (count : ℕ) (p d : Point) (i : ℕ) (w : Weights) : Type 0 where
  pub known : i < count
  pub shows : Weighs (2 ^ 30) (record_of s i).triangle p d w
  pub none-lower : NoneReaches s i p d

-- The claim, of what is found: none is said only where no triangle reaches the box; a bar is the lowest that does.
abbrev pub ShownAt : List ℕ → (count : ℕ) (p d : Point) → Option Bar → Type 0
ShownAt s count p d None = NoneReaches s count p d
ShownAt s count p d (Some b) = ShowsBar s count p d b.index b.weights

-- The same, of an answer that is not refused, of all triangles of a file and the box of cell n.
abbrev pub Shown : (file : List ℕ) (cell : ℕ) → Result (Option Bar) Limit → Type 0
Shown s n r =
    let g = (header_of s).grid in
    let l = lattice_of g in
    IfOk r (ShownAt s (header_of s).count (box_of_cell g l n) (cube l.extent))
