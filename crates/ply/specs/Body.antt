-- The body of a PLY file: its vertices, then its faces, and nothing behind. Definitions only. `s` is the whole file.
use Rattle.std.specs.Prelude.{Bool, cond, ◌&&◌, List, [], ◌∷◌, Option, Some, None, ℕ, zero, suc, ◌+◌, ◌*◌, leb, eqb, ℤ, pos, nat_abs, length, get_or}
use Rattle.std.specs.Int.Signed.{le_z, lt_z}
use Rattle.bits.specs.Field.{twos_complement}
use Rattle.refusal.specs.Questions.{Question, asks_of}
use Rattle.rounding.specs.declared.Vertex.{Vertex}
use Rattle.rounding.specs.Rounding.{rounded_of, millimetres}
use Rattle.ply_header.specs.declared.Form.{Form}
use Rattle.ply_header.specs.Header.{header}
use Rattle.ply_vertex.specs.Vertex.{little_endian, size_of, vertex_at, placed}
use Rattle.ply.specs.declared.Corner.{Corner}

-- ---- where they begin
-- Vertex k. Behind the last vertex the faces begin.
unfoldable pub vertex_place : Form → ℕ → ℕ
vertex_place f k = f.body + k * size_of f

-- A face is a byte with the number of its corners, and 4 bytes a corner.
abbrev pub behind_face : List ℕ → (at : ℕ) → ℕ
behind_face s at = at + 1 + 4 * get_or s at 0

-- Face k, where face 0 begins at a place. Behind the file's end a face has no corners.
unfoldable pub face_from : List ℕ → (at k : ℕ) → ℕ
face_from s at zero = at
face_from s at (suc k) = behind_face s (face_from s at k)

-- Face k of a file.
unfoldable pub face_place : List ℕ → Form → ℕ → ℕ
face_place s f k = face_from s (vertex_place f f.vertices) k

-- ---- limit 13
-- Does the file end behind its last face?
abbrev pub body_fits : List ℕ → Form → Bool
body_fits s f = eqb (face_place s f f.faces) (length s)

-- A header, where the file has at most 4,095 faces and its body the right length; else another form.
abbrev pub bodied : List ℕ → Option Form → Option Form
bodied s (Some f) = cond (leb f.faces 4095 && body_fits s f) (Some f) None
bodied s None = None

-- What a file says whose header has the form, with at most 4,095 faces and a body of the right length.
unfoldable pub taken : List ℕ → Option Form
taken s = bodied s (header s)

-- ---- limit 14
-- Vertex k of a file.
abbrev pub vertex_of : List ℕ → Form → ℕ → Vertex
vertex_of s f k = vertex_at s f (vertex_place f k)

-- Is each of its numbers finite, and in the range once rounded?
abbrev pub vertex_question : List ℕ → Form → ℕ → Question
vertex_question s f k = asks_of 14 k (placed (vertex_of s f k))

-- ---- limit 15
-- The index that stands at a place: a signed number of 32 bits.
abbrev pub index_at : List ℕ → (at : ℕ) → ℤ
index_at s at = twos_complement 32 (little_endian s at 4)

-- Is it the number of one of n vertices?
unfoldable pub is_index : ℕ → ℤ → Bool
is_index n z = le_z (pos 0) z && lt_z z (pos n)

-- Has the face at a place three corners, each one of n vertices?
unfoldable pub good_face : List ℕ → (n at : ℕ) → Bool
good_face s n at = eqb (get_or s at 0) 3 && is_index n (index_at s (at + 1)) && is_index n (index_at s (at + 5)) && is_index n (index_at s (at + 9))

abbrev pub face_question : List ℕ → Form → ℕ → Question
face_question s f k = asks_of 15 k (good_face s f.vertices (face_place s f k))

-- ---- triangles
-- A vertex in whole millimetres.
unfoldable pub corner_of : Vertex → Corner
corner_of v = record { x = millimetres (rounded_of v.x); y = millimetres (rounded_of v.y); z = millimetres (rounded_of v.z) }

-- The corner whose index stands at a place.
abbrev pub corner_at : List ℕ → Form → (at : ℕ) → Corner
corner_at s f at = corner_of (vertex_of s f (nat_abs (index_at s at)))

-- The ten numbers of a triangle: kind 0, and its three corners.
abbrev pub triangle_of : (a b c : Corner) → List ℤ
triangle_of a b c = pos 0 ∷ a.x ∷ a.y ∷ a.z ∷ b.x ∷ b.y ∷ b.z ∷ c.x ∷ c.y ∷ c.z ∷ []

-- The triangle of the face at a place.
unfoldable pub triangle_at : List ℕ → Form → (at : ℕ) → List ℤ
triangle_at s f at = triangle_of (corner_at s f (at + 1)) (corner_at s f (at + 5)) (corner_at s f (at + 9))
