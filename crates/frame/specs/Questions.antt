-- The questions put to a frame file, in turn, and what the calls say. Definitions only.
use Rattle.std.specs.Prelude.{Some, None, Bool, cond, ◌&&◌, List, [], ◌∷◌, ◌++◌, ℕ, leb, ltb, eqb, ℤ, pos, ◌+ℤ◌, ◌*ℤ◌, length}
use Rattle.std.specs.Int.Signed.{le_z, lt_z}
use Rattle.refusal.specs.Limit.{Answer}
use Rattle.refusal.specs.Questions.{Question, ◌asks◌, asks_of, answered, of_each}
use Rattle.grid.specs.declared.Grid.{Grid}
use Rattle.layout.specs.declared.Layout.{Layout}
use Rattle.layout.specs.declared.Header.{Header}
use Rattle.layout.specs.Layout.{version1, record_start}
use Rattle.layout.specs.Values.{reserved_in, kind_in, from_record}
use Rattle.frame.specs.declared.Reading.{Reading}
use Rattle.frame.specs.File.{header_of, record_of}

-- ---- the questions put to a file
-- On one axis, is origin + cells × edge at most the farthest coordinate?
abbrev pub axis_fits : ℤ → ℤ → ℕ → ℤ → Bool
axis_fits farthest origin cells edge = le_z (origin +ℤ pos cells *ℤ edge) farthest

abbrev pub extent_fits : ℤ → Grid → Bool
extent_fits farthest g =
    axis_fits farthest g.origin.x g.nx g.edge
    && (axis_fits farthest g.origin.y g.ny g.edge && axis_fits farthest g.origin.z g.nz g.edge)

-- Questions 1 to 6, in turn, of a file s with header h: at least as long as a header; version 1; an edge above 0; last
-- header bits of zero; the grid's extent; the exact length.
abbrev pub header_questions : Layout → Header → List ℕ → List Question
header_questions l h s =
    (1 asks leb l.header (length s))
    ∷ (2 asks eqb h.version 1)
    ∷ (3 asks lt_z (pos 0) h.grid.edge)
    ∷ (4 asks eqb (reserved_in l s) 0)
    ∷ (5 asks extent_fits l.farthest h.grid)
    ∷ (6 asks eqb (length s) (record_start l h.count))
    ∷ []

-- Question 7: is the kind of record i below 3?
abbrev pub kind_question : Layout → List ℕ → ℕ → Question
kind_question l s i = asks_of 7 i (ltb (kind_in l (from_record l s i)) 3)

-- Questions 1 to 7, in turn: the kinds come last, the lowest record first.
abbrev pub questions_by : Layout → Header → List ℕ → List Question
questions_by l h s = header_questions l h s ++ of_each (kind_question l s) h.count

abbrev pub file_questions : List ℕ → List Question
file_questions s = questions_by version1 (header_of s) s

-- ---- what the calls say
-- A check gives the header's values.
unfoldable pub checked : List ℕ → Answer Header
checked s = answered (file_questions s) (header_of s)

-- A plain reading gives the header's values with a record's, or with none where the record number is not below the count.
abbrev pub contents : List ℕ → Header → ℕ → Reading
contents s h i = record { header = h; found = cond (ltb i h.count) (Some (record_of s i)) None }

unfoldable pub reading : List ℕ → ℕ → Answer Reading
reading s i = answered (file_questions s) (contents s (header_of s) i)
