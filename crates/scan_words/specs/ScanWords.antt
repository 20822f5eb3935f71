-- What the triangles of a scanner's file have to do with its numbers; and what the frame file made of it says. Definitions only. `s` is the whole file.
use Rattle.std.specs.Prelude.{true, List, Some, ◌≡◌, ℕ, ◌+◌, ◌*◌, ◌<◌, ℤ, pos, length, get_or, take}
use Rattle.refusal.specs.Limit.{gives}
use Rattle.layout.specs.Layout.{version1}
use Rattle.frame.specs.File.{header_of}
use Rattle.frame.specs.Questions.{checked}
use Rattle.writable.specs.Fits.{triangle_numbers}
use Rattle.frame_write.specs.declared.GridValues.{GridValues}
use Rattle.frame_write.specs.Write.{writing, written_bytes}
use Rattle.round_trip.specs.RoundTrip.{Reads}
use Rattle.rounding.specs.declared.Vertex.{Vertex}
use Rattle.rounding.specs.Rounding.{Rounds}
use Rattle.rounding.specs.Widening.{SameValue}
use Rattle.ply_header.specs.declared.Form.{Form}
use Rattle.ply_vertex.specs.Vertex.{width_of, number_at, vertex_at}
use Rattle.ply.specs.declared.Corner.{Corner}
use Rattle.ply.specs.Body.{face_place, taken, vertex_of, index_at, triangle_of}
use Rattle.scan.specs.Scan.{scanned, grid_fits, scanning, scan_bytes}

-- ---- from numbers to triangles
-- The three doubles of a vertex have the values of the file's three numbers.
pub record WithoutLoss (s : List ℕ) (f : Form) (at : ℕ) : Type 0 where
  pub x : SameValue (number_at f.x s at) (vertex_at s f at).x
  pub y : SameValue (number_at f.y s (at + width_of f.x)) (vertex_at s f at).y
  pub z : SameValue (number_at f.z s (at + width_of f.x + width_of f.y)) (vertex_at s f at).z

-- On each axis the corner has the whole number nearest to the vertex's exact value: the distance is at most half, a half goes to the even one,
-- and the number is from -8,192 to 8,191.
pub record IsNearest (v : Vertex) (c : Corner) : Type 0 where
  pub x : Rounds v.x c.x
  pub y : Rounds v.y c.y
  pub z : Rounds v.z c.z

-- The index at a place is that of one of the file's vertices, and the corner is that vertex, rounded.
pub record CornerFrom (s : List ℕ) (f : Form) (at : ℕ) (c : Corner) : Type 0 where
  pub vertex : ℕ
  pub index : index_at s at ≡ pos vertex
  pub below : vertex < f.vertices
  pub nearest : IsNearest (vertex_of s f vertex) c

-- The face at a place has three corners, and the ten numbers are kind 0 and these corners, in order.
pub record TriangleFrom (s : List ℕ) (f : Form) (at : ℕ) (ns : List ℤ) : Type 0 where
  pub a : Corner
  pub b : Corner
  pub c : Corner
  pub three : get_or s at 0 ≡ 3
  pub first : CornerFrom s f (at + 1) a
  pub second : CornerFrom s f (at + 5) b
  pub third : CornerFrom s f (at + 9) c
  pub numbers : ns ≡ triangle_of a b c

-- ---- the claims
-- Vertices are widened without loss.
abbrev pub Widens : Type 0
Widens = (s : List ℕ) → ((i : ℕ) → get_or s i 0 < 256) → (f : Form) (at : ℕ) → WithoutLoss s f at

-- A file that gives triangles gives one a face, in order: triangle k is that of face k, each corner at most half from its exact value on each axis.
abbrev pub ScanRounds : Type 0
ScanRounds =
    (s : List ℕ) (f : Form) (zs : List ℤ) → taken s ≡ Some f → scanned s ≡ gives zs
    → (length zs ≡ 10 * f.faces) × ((k : ℕ) → k < f.faces → TriangleFrom s f (face_place s f k) (triangle_numbers zs k))

-- The outcome is what the writer says and leaves of these triangles.
abbrev pub ScanWrites : Type 0
ScanWrites =
    (g : GridValues) (s : List ℕ) (zs : List ℤ) → grid_fits g ≡ true → scanned s ≡ gives zs
    → ((room : ℕ) → scanning g s room ≡ writing g zs room) × ((out : List ℕ) → scan_bytes g s out ≡ written_bytes g zs out)

-- The frame file t, of n bytes, is accepted, and has the grid's values and the triangles of the file.
pub record ReadsBack (g : GridValues) (s : List ℕ) (n : ℕ) (t : List ℕ) : Type 0 where
  pub numbers : List ℤ
  pub given : scanned s ≡ gives numbers
  pub long : length t ≡ n
  pub accepted : checked t ≡ gives (header_of t)
  pub reads : Reads version1 g numbers t

-- So reading what a scan wrote yields the grid's values given and the file's triangles.
abbrev pub ScanThenRead : Type 0
ScanThenRead = (g : GridValues) (s out : List ℕ) (n : ℕ) → scanning g s (length out) ≡ gives n → ReadsBack g s n (take n (scan_bytes g s out))
