-- What the call answers, by what the check says of the file.
--     behind-refused      the file is refused
--     behind-outside      the cell is not in the grid
--     behind-found        neither
-- And back: where it is answered, the file is accepted and the cell is in the grid.
--     behind-given
-- Assumes nothing.
use mathlib.Core.List.{List, [], ◌∷◌}
use mathlib.Core.Path.{◌≡◌, sym, ap, ◌∙◌}
use Prim.Native.Nat.{ℕ, ◌<◌, ◌≤◌}
use borrow.Author.Tests.{lt-ltb, le-ltb, ltb-true}
use Rattle.std.specs.Prelude.{Option}
use Rattle.refusal.specs.Limit.{gives, refused}
use Rattle.refusal.specs.Questions.{answered}
use Rattle.refusal.specs.Inner.{asked}
use Rattle.refusal.proofs.Asking.{and_then, both-passed, first-append, passed-head, passes, stopped, through}
use Rattle.grid.specs.Grid.{cell_count, lattice_of}
use Rattle.overlap.specs.Cells.{overlaps_cell}
use Rattle.layout.specs.declared.Header.{Header}
use Rattle.frame.specs.File.{header_of, record_of}
use Rattle.frame.specs.Questions.{file_questions, checked}
use Rattle.frame.proofs.Accepted.{questions-refused, questions-passed, header_is}
use Rattle.service.specs.Bar.{lowest, cell_question, behind}

module _ (s : List ℕ) (n : ℕ) where
  -- the lowest record whose triangle overlaps the box of the cell
  abbrev pub finding : Option ℕ
  finding = let g = (header_of s).grid in lowest (λ i. overlaps_cell g (lattice_of g) (record_of s i).triangle n) (header_of s).count

  in-turn : behind s n ≡ and_then (asked (file_questions s)) (answered (cell_question (header_of s).grid n ∷ []) finding)
  unfolding behind
  in-turn = first-append finding (file_questions s) (cell_question (header_of s).grid n ∷ [])

  pub behind-given : {b : Option ℕ} → behind s n ≡ gives b → (checked s ≡ gives (header_of s)) × (n < cell_count (header_of s).grid)
  unfolding checked
  behind-given e =
      let p = both-passed (asked (file_questions s)) (answered (cell_question (header_of s).grid n ∷ []) finding) (sym in-turn ∙ e) in
      (passes (header_of s) (file_questions s) p.0, ltb-true _ _ (passed-head finding _ [] p.1).0)

  pub behind-refused : {m p : ℕ} → checked s ≡ refused m p → behind s n ≡ refused m p
  behind-refused e = in-turn ∙ rw (questions-refused s e)

  module _ (h : Header) (c : checked s ≡ gives h) where
    cell-asked : behind s n ≡ answered (cell_question h.grid n ∷ []) finding
    cell-asked = in-turn ∙ rw (questions-passed s h c) (ap (λ (y : Header). answered (cell_question y.grid n ∷ []) finding) (header_is s h c))

    pub behind-outside : cell_count h.grid ≤ n → behind s n ≡ refused 16 0
    behind-outside l = cell-asked ∙ stopped _ _ [] (le-ltb _ _ l)

    pub behind-found : n < cell_count h.grid → behind s n ≡ gives finding
    unfolding answered
    behind-found l = cell-asked ∙ through _ _ [] (lt-ltb _ _ l)
