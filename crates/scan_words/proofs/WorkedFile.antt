-- A whole scanner's file, and others that are refused, by computation on the definitions.
--     form, numbers              what is taken of it, and its triangle
--     written-mesh, scannable    the mesh whose file it is, and that it can be scanned
--     same-corner, no-faces      a face that has a vertex twice, and a file of ints with no faces
--     written-length, written    the frame file that it becomes
--     longer, shorter, many      13
--     vertex, wide_int, lowest-vertex    14
--     negative, large, four, far, most-corners, second, lowest-face, no-corners    15
--     vertex-first, no_edge, no_room, room-last    12, 11, and which refusal comes first
-- Assumes nothing.
use Rattle.std.specs.Prelude.{Ok, Some}
use mathlib.Core.List.{List, [], ◌∷◌, ◌++◌}
use mathlib.Core.Path.{◌≡◌, refl, subst}
use Prim.Native.Nat.{ℕ, zero, suc, ◌^◌, ◌<◌}
use Prim.Native.String.{String}
use native.Mathlib.Omega.{arith}
use lib.IntN.{ℤ, pos, neg_ℤ}
use lib.Ieee.{of_bits, of_int}
use lib.ListN.{replicate}
use Rattle.bits.specs.Field.{bytes_of}
use Rattle.refusal.specs.Limit.{gives, refused}
use Rattle.refusal.specs.Questions.{answered, of_each}
use Rattle.text.specs.Text.{digits, decimal}
use Rattle.layout_write.specs.Writing.{header_bytes, record_bytes}
use Rattle.writable.specs.Fits.{all_below}
use Rattle.frame_write.specs.declared.GridValues.{GridValues}
use Rattle.frame_write.specs.Write.{concat_below, writing, written_bytes}
use Rattle.rounding.specs.Rounding.{rounded_of, Says}
use Rattle.rounding.proofs.Meaning.{says}
use Rattle.ply_header.specs.declared.Scalar.{Scalar}
use Rattle.ply_header.specs.declared.Scalar.TheVariants.{Float, Double, Int}
use Rattle.ply_header.specs.Text.{bytes}
use Rattle.ply_header.specs.Format.{header_text}
use Rattle.ply_header.proofs.WorkedHeaders.{header-parts}
use Rattle.ply_vertex.specs.Vertex.{size_of, vertex_at, placed}
use Rattle.ply.specs.declared.Corner.{Corner}
use Rattle.ply.specs.Body.{vertex_place, face_from, face_place, taken, is_index, good_face, corner_of, triangle_at}
use Rattle.scan.specs.Scan.{triangles, scanned, scanning, scan_bytes}
use Rattle.scan_words.specs.Mesh.{Three, Mesh, bytes_in, lowest_first, mesh_file, value_of, Meant, MeantVertex, Scannable}

-- What a file is computed by, all of it unfolded.
parts : Unit {0}
unfolding header-parts size_of vertex_place face_from face_place taken of_bits of_int vertex_at placed is_index good_face corner_of triangle_at answered of_each concat_below triangles scanned
parts = tt

-- And the frame file.
frame-parts : Unit {0}
unfolding parts bytes_of header_bytes record_bytes all_below writing written_bytes scanning scan_bytes
frame-parts = tt

-- ---- the file
abbrev heading : (vertices faces : String) → List ℕ
heading v f =
    bytes "ply\nformat binary_little_endian 1.0\nelement vertex " ++ bytes v
    ++ bytes "\nproperty float x\nproperty double y\nproperty int z\nelement face " ++ bytes f
    ++ bytes "\nproperty list uchar int vertex_indices\nend_header\n"

-- three vertices, of which vertex 1 has any x, and faces
abbrev body : (x faces : List ℕ) → List ℕ
body x faces =
    -- vertex 0: 2.5, -0.5, -7
    (0x00 ∷ 0x00 ∷ 0x20 ∷ 0x40 ∷ 0x00 ∷ 0x00 ∷ 0x00 ∷ 0x00 ∷ 0x00 ∷ 0x00 ∷ 0xe0 ∷ 0xbf ∷ 0xf9 ∷ 0xff ∷ 0xff ∷ 0xff ∷ [])
    -- vertex 1: x, 3.5, 100
    ++ x
    ++ (0x00 ∷ 0x00 ∷ 0x00 ∷ 0x00 ∷ 0x00 ∷ 0x00 ∷ 0x0c ∷ 0x40 ∷ 0x64 ∷ 0x00 ∷ 0x00 ∷ 0x00 ∷ [])
    -- vertex 2: -8,192.5, the double next below 0.5, 1
    ++ (0x00 ∷ 0x02 ∷ 0x00 ∷ 0xc6 ∷ 0xff ∷ 0xff ∷ 0xff ∷ 0xff ∷ 0xff ∷ 0xff ∷ 0xdf ∷ 0x3f ∷ 0x01 ∷ 0x00 ∷ 0x00 ∷ 0x00 ∷ [])
    ++ faces

-- with one face
abbrev file : (x face : List ℕ) → List ℕ
file x face = heading "3" "1" ++ body x face

-- 8,191.25, and not a number
abbrev inside : List ℕ
inside = 0x00 ∷ 0xfa ∷ 0xff ∷ 0x45 ∷ []

abbrev no_number : List ℕ
no_number = 0x00 ∷ 0x00 ∷ 0xc0 ∷ 0x7f ∷ []

-- a count of corners, vertex 2, vertex 0, and what is behind; and behind three corners vertex 1
abbrev face : (corners : ℕ) (behind : List ℕ) → List ℕ
face n behind = n ∷ 0x02 ∷ 0x00 ∷ 0x00 ∷ 0x00 ∷ 0x00 ∷ 0x00 ∷ 0x00 ∷ 0x00 ∷ behind

abbrev corners : List ℕ
corners = face 3 (0x01 ∷ 0x00 ∷ 0x00 ∷ 0x00 ∷ [])

abbrev minus_one : List ℕ
minus_one = 0xff ∷ 0xff ∷ 0xff ∷ 0xff ∷ []

-- ---- what it gives
pub form : taken (file inside corners) ≡ Some (record { x = Float; y = Double; z = Int; vertices = 3; faces = 1; body = 168 })
unfolding parts
form = refl

abbrev triangle : List ℤ
triangle = pos 0 ∷ neg_ℤ (pos 8192) ∷ pos 0 ∷ pos 1 ∷ pos 2 ∷ pos 0 ∷ neg_ℤ (pos 7) ∷ pos 8191 ∷ pos 4 ∷ pos 100 ∷ []

pub numbers : scanned (file inside corners) ≡ gives triangle
unfolding parts
numbers = refl

-- ---- it is the file of this mesh
abbrev patterns : ℕ → Three
patterns zero = record { first = 0x4020_0000; second = 0xbfe0_0000_0000_0000; third = 0xffff_fff9 }
patterns (suc zero) = record { first = 0x45ff_fa00; second = 0x400c_0000_0000_0000; third = 100 }
patterns (suc (suc k)) = record { first = 0xc600_0200; second = 0x3fdf_ffff_ffff_ffff; third = 1 }

abbrev mesh : Mesh
mesh = record { x = Float; y = Double; z = Int; vertices = 3; vertex = patterns; faces = 1; face = λ k. record { first = 2; second = 0; third = 1 } }

pub written-mesh : mesh_file mesh ≡ file inside corners
unfolding header_text digits decimal lowest_first concat_below mesh_file
written-mesh = refl

-- with these whole corners it can be scanned
abbrev rounded : ℕ → Corner
rounded zero = record { x = pos 2; y = pos 0; z = neg_ℤ (pos 7) }
rounded (suc zero) = record { x = pos 8191; y = pos 4; z = pos 100 }
rounded (suc (suc k)) = record { x = neg_ℤ (pos 8192); y = pos 0; z = pos 1 }

meant : (t : Scalar) (b : ℕ) {r : ℤ} → b < 256 ^ bytes_in t → rounded_of (value_of t b) ≡ Ok r → Meant t b r
meant t b n e = record { narrow = n; rounds = subst (Says (value_of t b)) e (says (value_of t b)) }

each : (k : ℕ) → MeantVertex mesh k (rounded k)
unfolding of_bits of_int
each zero = record { x = meant _ _ (omega arith) refl; y = meant _ _ (omega arith) refl; z = meant _ _ (omega arith) refl }
each (suc zero) = record { x = meant _ _ (omega arith) refl; y = meant _ _ (omega arith) refl; z = meant _ _ (omega arith) refl }
each (suc (suc k)) = record { x = meant _ _ (omega arith) refl; y = meant _ _ (omega arith) refl; z = meant _ _ (omega arith) refl }

pub scannable : Scannable mesh rounded
scannable = record { few = omega arith; indexed = omega arith; vertex = λ k h. each k; face = λ k h. record { first = omega arith; second = omega arith; third = omega arith } }

-- ---- other files that are taken
-- corners may be the same vertex
abbrev twice : List ℤ
twice = pos 0 ∷ neg_ℤ (pos 8192) ∷ pos 0 ∷ pos 1 ∷ pos 2 ∷ pos 0 ∷ neg_ℤ (pos 7) ∷ pos 2 ∷ pos 0 ∷ neg_ℤ (pos 7) ∷ []

pub same-corner : scanned (file inside (face 3 (0x00 ∷ 0x00 ∷ 0x00 ∷ 0x00 ∷ []))) ≡ gives twice
unfolding parts
same-corner = refl

-- two vertices of three ints each, 24 bytes in all, of which the first four and the last four differ; and no faces
abbrev ints : (x z : List ℕ) → List ℕ
ints x z =
    bytes "ply\nformat binary_little_endian 1.0\nelement vertex 2\nproperty int x\nproperty int y\nproperty int z\nelement face 0\nproperty list uchar int vertex_indices\nend_header\n"
    ++ x ++ replicate 16 0x00 ++ z

pub no-faces : scanned (ints (replicate 4 0x00) (replicate 4 0x00)) ≡ gives []
unfolding parts
no-faces = refl

-- ---- the frame file, for 2 × 2 × 2 cells with this edge and origin 0: its length, and its bytes with the byte behind them
abbrev grid : (edge : ℤ) → GridValues
grid edge = record { nx = pos 2; ny = pos 2; nz = pos 2; edge = edge; x = pos 0; y = pos 0; z = pos 0 }

pub written-length : scanning (grid (pos 10)) (file inside corners) 28 ≡ gives 28
unfolding frame-parts
written-length = refl

pub written : scan_bytes (grid (pos 10)) (file inside corners) (replicate 29 0xaa)
    ≡ (0x10 ∷ 0x41 ∷ 0x04 ∷ 0x28 ∷ 0x00 ∷ 0x00 ∷ 0x00 ∷ 0x00 ∷ 0x00 ∷ 0x00 ∷ 0x10 ∷ 0x00 ∷ [])
    ++ (0x20 ∷ 0x00 ∷ 0x00 ∷ 0x00 ∷ 0x00 ∷ 0x10 ∷ 0x00 ∷ 0x80 ∷ 0x00 ∷ 0xff ∷ 0xe5 ∷ 0xff ∷ 0xf0 ∷ 0x01 ∷ 0x00 ∷ 0x64 ∷ [])
    ++ (0xaa ∷ [])
unfolding frame-parts
written = refl

-- ---- refused
-- 13: a byte more, a byte less
pub longer : scanned (file inside (corners ++ (0x00 ∷ []))) ≡ refused 13 0
unfolding parts
longer = refl

pub shorter : scanned (file inside (face 3 (0x01 ∷ 0x00 ∷ 0x00 ∷ []))) ≡ refused 13 0
unfolding parts
shorter = refl

-- 13: 4,096 faces, of no corners each, in a body of the right length
pub many : scanned (heading "3" "4096" ++ body inside (replicate 4096 0x00)) ≡ refused 13 0
unfolding parts
many = refl

-- 14: a number of vertex 1 is none
pub vertex : scanned (file no_number corners) ≡ refused 14 1
unfolding parts
vertex = refl

-- 14: an int has 32 bits, and this one is 65,536; of two such the lower vertex is named
abbrev wide : List ℕ
wide = 0x00 ∷ 0x00 ∷ 0x01 ∷ 0x00 ∷ []

pub wide_int : scanned (ints (replicate 4 0x00) wide) ≡ refused 14 1
unfolding parts
wide_int = refl

pub lowest-vertex : scanned (ints wide wide) ≡ refused 14 0
unfolding parts
lowest-vertex = refl

-- 15: the index -1, the index 3; and four corners in a body of the right length
pub negative : scanned (file inside (face 3 minus_one)) ≡ refused 15 0
unfolding parts
negative = refl

pub large : scanned (file inside (face 3 (0x03 ∷ 0x00 ∷ 0x00 ∷ 0x00 ∷ []))) ≡ refused 15 0
unfolding parts
large = refl

pub four : scanned (file inside (face 4 (replicate 8 0x00))) ≡ refused 15 0
unfolding parts
four = refl

-- an index has 32 bits: this one is 65,536
pub far : scanned (file inside (face 3 (0x00 ∷ 0x00 ∷ 0x01 ∷ 0x00 ∷ []))) ≡ refused 15 0
unfolding parts
far = refl

-- 255 corners, in a body of the right length
pub most-corners : scanned (file inside (face 255 (replicate 1012 0x00))) ≡ refused 15 0
unfolding parts
most-corners = refl

-- the second face of two; the first, where both are wrong; and a face of no corners
pub second : scanned (heading "3" "2" ++ body inside (corners ++ face 3 minus_one)) ≡ refused 15 1
unfolding parts
second = refl

pub lowest-face : scanned (heading "3" "2" ++ body inside (face 3 minus_one ++ face 3 minus_one)) ≡ refused 15 0
unfolding parts
lowest-face = refl

pub no-corners : scanned (file inside (0x00 ∷ [])) ≡ refused 15 0
unfolding parts
no-corners = refl

-- the vertices come before the faces
pub vertex-first : scanned (file no_number (face 3 minus_one)) ≡ refused 14 1
unfolding parts
vertex-first = refl

-- 12: the edge 0, and it comes before the file; and 11: room for 27 bytes, and it comes last
pub no_edge : scanning (grid (pos 0)) (file no_number (face 3 minus_one)) 0 ≡ refused 12 0
unfolding frame-parts
no_edge = refl

pub no_room : scanning (grid (pos 10)) (file inside corners) 27 ≡ refused 11 0
unfolding frame-parts
no_room = refl

pub room-last : scanning (grid (pos 10)) (file inside (face 3 minus_one)) 0 ≡ refused 15 0
unfolding frame-parts
room-last = refl
