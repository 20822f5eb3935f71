-- A frame file from a scanner's file: its triangles, and what the call says and leaves. Definitions only.
use Rattle.std.specs.Prelude.{Bool, cond, List, ◌++◌, Option, Some, None, ℕ, ℤ}
use Rattle.refusal.specs.Limit.{Answer, gives, refused}
use Rattle.refusal.specs.Questions.{Question, answered, of_each}
use Rattle.layout.specs.Layout.{version1}
use Rattle.writable.specs.Fits.{header_fits}
use Rattle.frame_write.specs.declared.GridValues.{GridValues}
use Rattle.frame_write.specs.Write.{header_to_write, concat_below, writing, written_bytes}
use Rattle.ply_header.specs.declared.Form.{Form}
use Rattle.ply.specs.Body.{face_place, taken, vertex_question, face_question, triangle_at}

-- ---- the scanner's file
-- Its triangles, ten numbers each: one a face, in the order of the faces.
unfoldable pub triangles : List ℕ → Form → List ℤ
triangles s f = concat_below (λ k. triangle_at s f (face_place s f k)) f.faces

-- In turn: of each vertex, 14; of each face, 15.
abbrev pub ply_questions : List ℕ → Form → List Question
ply_questions s f = of_each (vertex_question s f) f.vertices ++ of_each (face_question s f) f.faces

-- What it gives, by what is taken of it: its triangles, or 13 where it is not of the form, or the first "no".
abbrev pub scanned_as : List ℕ → Option Form → Answer (List ℤ)
scanned_as s (Some f) = answered (ply_questions s f) (triangles s f)
scanned_as s None = refused 13 0

-- What a scanner's file gives.
unfoldable pub scanned : List ℕ → Answer (List ℤ)
scanned s = scanned_as s (taken s)

-- ---- what the call says and leaves
-- May the grid's values be written? As the writer asks it; no count of triangles changes the answer.
abbrev pub grid_fits : GridValues → Bool
grid_fits g = header_fits version1 (header_to_write g 0)

-- What the writer says of the triangles, where the file is not refused.
abbrev pub writing_of : GridValues → Answer (List ℤ) → (room : ℕ) → Answer ℕ
writing_of g (gives zs) room = writing g zs room
writing_of g (refused n p) room = refused n p

-- And what it leaves of the output; after a refusal it is as it was.
abbrev pub scan_leaves : GridValues → Answer (List ℤ) → (out : List ℕ) → List ℕ
scan_leaves g (gives zs) out = written_bytes g zs out
scan_leaves g (refused n p) out = out

-- What the call says: the grid's values come first, then the file, then what the writer says of its triangles.
unfoldable pub scanning : GridValues → List ℕ → (room : ℕ) → Answer ℕ
scanning g s room = cond (grid_fits g) (writing_of g (scanned s) room) (refused 12 0)

-- What the call leaves of the output.
unfoldable pub scan_bytes : GridValues → List ℕ → (out : List ℕ) → List ℕ
scan_bytes g s out = cond (grid_fits g) (scan_leaves g (scanned s) out) out
