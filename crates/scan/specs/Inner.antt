-- What the functions ask and answer. Definitions only; no public promise cites them.
use Rattle.std.specs.Prelude.{List, [], ◌∷◌, ◌++◌, Some, ◌≡◌, ℕ, ◌+◌, ◌*◌, ◌<◌, ℤ, leb}
use Rattle.refusal.specs.Questions.{Question, ◌asks◌}
use Rattle.refusal.specs.Inner.{passed, asked}
use Rattle.layout.specs.Layout.{version1, record_start}
use Rattle.layout_write.specs.Writing.{record_bytes}
use Rattle.ply_header.specs.declared.Form.{Form}
use Rattle.ply.specs.declared.Corner.{Corner}
use Rattle.ply.specs.Body.{face_place, taken, corner_at, triangle_at}
use Rattle.ply.specs.Inner.{Cornered}
use Rattle.scan.specs.Scan.{ply_questions}

-- The questions of a file whose header has the form, with the room for its frame file last.
abbrev pub scan_questions : List ℕ → Form → (room : ℕ) → List Question
scan_questions s f room = ply_questions s f ++ ((11 asks leb (record_start version1 f.faces) room) ∷ [])

-- The bytes of the record of face i.
abbrev pub face_bytes : List ℕ → Form → ℕ → List ℕ
face_bytes s f i = record_bytes version1 (triangle_at s f (face_place s f i))

-- A file that passed all questions, with the room.
pub record Accepted (s : List ℕ) (f : Form) (room : ℕ) : Type 0 where
  pub form : taken s ≡ Some f
  pub yes : asked (scan_questions s f room) ≡ passed

-- The three numbers of a corner; and those of corner j of the face at a place.
abbrev pub numbers_of : Corner → List ℤ
numbers_of c = c.x ∷ c.y ∷ c.z ∷ []

abbrev pub corner_numbers : List ℕ → Form → (at j : ℕ) → List ℤ
corner_numbers s f at j = numbers_of (corner_at s f (at + 1 + 4 * j))

-- The face at a place has three corners, each of them one of the file's vertices.
pub record Faced (s : List ℕ) (f : Form) (at : ℕ) : Type 0 where
  pub corner : (j : ℕ) → j < 3 → Cornered s f (at + 1 + 4 * j)
