-- A mesh, and the scanner's file that it is written to: the format from the writer's side. Definitions only.
use Rattle.std.specs.Prelude.{List, [], ◌∷◌, ◌++◌, Some, ◌≡◌, ℕ, zero, suc, ◌/◌, ◌%◌, ◌^◌, ◌<◌, ◌≤◌, ℤ, pos, length, Float as F}
use Rattle.std.specs.Float.{binary32, binary64}
use Rattle.std.specs.Float.Ieee.{of_bits, of_int}
use Rattle.bits.specs.Field.{twos_complement}
use Rattle.refusal.specs.Limit.{gives}
use Rattle.text.specs.Text.{decimal}
use Rattle.frame_write.specs.Write.{concat_below}
use Rattle.rounding.specs.Rounding.{Rounds}
use Rattle.ply_header.specs.declared.Scalar.{Scalar}
use Rattle.ply_header.specs.declared.Scalar.TheVariants.{Float, Double, Int}
use Rattle.ply_header.specs.declared.Form.{Form}
use Rattle.ply_header.specs.Header.{header}
use Rattle.ply_header.specs.Format.{header_text}
use Rattle.ply.specs.declared.Corner.{Corner}
use Rattle.scan.specs.Scan.{scanned}

-- ---- a mesh
-- Three of a kind: the numbers of a vertex along x, y and z, each as its bit pattern; or the vertices of a face, each as its number.
pub record Three : Type 0 where
  pub first : ℕ
  pub second : ℕ
  pub third : ℕ

-- The types of the axes; how many vertices there are, and vertex k; how many faces, and face k.
pub record Mesh : Type 0 where
  pub x : Scalar
  pub y : Scalar
  pub z : Scalar
  pub vertices : ℕ
  pub vertex : ℕ → Three
  pub faces : ℕ
  pub face : ℕ → Three

-- ---- the file
-- Its header, with the counts in base ten.
abbrev pub mesh_header : Mesh → List ℕ
mesh_header m = header_text m.x m.y m.z (decimal m.vertices) (decimal m.faces)

-- How many bytes a number of a type has.
abbrev pub bytes_in : Scalar → ℕ
bytes_in Float = 4
bytes_in Double = 8
bytes_in Int = 4

-- The n bytes of a number, the lowest first.
unfoldable pub lowest_first : (n number : ℕ) → List ℕ
lowest_first zero v = []
lowest_first (suc n) v = v % 256 ∷ lowest_first n (v / 256)

-- A vertex is its three numbers.
abbrev pub mesh_vertex : Mesh → ℕ → List ℕ
mesh_vertex m k =
    lowest_first (bytes_in m.x) (m.vertex k).first
    ++ lowest_first (bytes_in m.y) (m.vertex k).second
    ++ lowest_first (bytes_in m.z) (m.vertex k).third

-- A face is the byte 3, and its vertices' numbers, 4 bytes each.
abbrev pub mesh_face : Mesh → ℕ → List ℕ
mesh_face m k = (3 ∷ []) ++ lowest_first 4 (m.face k).first ++ lowest_first 4 (m.face k).second ++ lowest_first 4 (m.face k).third

-- The file: its header, its vertices, its faces.
unfoldable pub mesh_file : Mesh → List ℕ
mesh_file m = mesh_header m ++ concat_below (mesh_vertex m) m.vertices ++ concat_below (mesh_face m) m.faces

-- ---- what it means
-- The value of a bit pattern: a float of IEEE 754 of 32 or 64 bits, or a whole number in two's complement, as a double.
abbrev pub value_of : Scalar → ℕ → F
value_of Float b = of_bits binary32 b
value_of Double b = of_bits binary64 b
value_of Int b = of_int binary64 (twos_complement 32 b)

-- A pattern has as many bits as its type, and its value is finite; r is the whole number nearest to it, from -8,192 to 8,191.
pub record Meant (t : Scalar) (pattern : ℕ) (r : ℤ) : Type 0 where
  pub narrow : pattern < 256 ^ bytes_in t
  pub rounds : Rounds (value_of t pattern) r

-- So it is on each axis of vertex k.
pub record MeantVertex (m : Mesh) (k : ℕ) (c : Corner) : Type 0 where
  pub x : Meant m.x (m.vertex k).first c.x
  pub y : Meant m.y (m.vertex k).second c.y
  pub z : Meant m.z (m.vertex k).third c.z

-- Each corner of a face is one of n vertices.
pub record Inside (n : ℕ) (face : Three) : Type 0 where
  pub first : face.first < n
  pub second : face.second < n
  pub third : face.third < n

-- A mesh that can be scanned. Its vertices, rounded, are these corners; there are at most 4,095 faces, and each index is a signed number of 32 bits.
pub record Scannable (m : Mesh) (corner : ℕ → Corner) : Type 0 where
  pub few : m.faces ≤ 4095
  pub indexed : m.vertices ≤ 2147483648
  pub vertex : (k : ℕ) → k < m.vertices → MeantVertex m k (corner k)
  pub face : (k : ℕ) → k < m.faces → Inside m.vertices (m.face k)

-- The ten numbers of face k: kind 0, and the whole corners of its three vertices, in order.
abbrev pub face_numbers : Mesh → (corner : ℕ → Corner) → ℕ → List ℤ
face_numbers m corner k =
    let a = corner (m.face k).first in
    let b = corner (m.face k).second in
    let c = corner (m.face k).third in
    pos 0 ∷ a.x ∷ a.y ∷ a.z ∷ b.x ∷ b.y ∷ b.z ∷ c.x ∷ c.y ∷ c.z ∷ []

-- ---- the claims
-- What the header of a mesh says.
abbrev pub mesh_form : Mesh → Form
mesh_form m = record { x = m.x; y = m.y; z = m.z; vertices = m.vertices; faces = m.faces; body = length (mesh_header m) }

-- It is read so, whatever stands behind it.
abbrev pub HeaderRead : Type 0
HeaderRead = (m : Mesh) (rest : List ℕ) → header (mesh_header m ++ rest) ≡ Some (mesh_form m)

-- The file of a mesh gives the triangles of its faces, in order.
abbrev pub MeshRead : Type 0
MeshRead = (m : Mesh) (corner : ℕ → Corner) → Scannable m corner → scanned (mesh_file m) ≡ gives (concat_below (face_numbers m corner) m.faces)
