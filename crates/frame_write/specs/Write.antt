-- Writing a frame file: what is asked of the values, the file's bytes, and what the call says and leaves. Definitions only.
use Rattle.std.specs.Prelude.{List, [], ◌∷◌, ◌++◌, ℕ, zero, suc, ◌/◌, ◌%◌, leb, eqb, ℤ, pos, length, drop}
use Rattle.refusal.specs.Limit.{Answer, unless_refused}
use Rattle.refusal.specs.Questions.{Question, ◌asks◌, answered}
use Rattle.layout.specs.declared.Layout.{Layout}
use Rattle.layout.specs.Layout.{version1, record_start}
use Rattle.layout.specs.Values.{number_at}
use Rattle.layout_write.specs.Writing.{header_bytes, record_bytes}
use Rattle.writable.specs.Fits.{header_fits, triangle_fits, triangle_numbers, all_below}
use Rattle.frame_write.specs.declared.GridValues.{GridValues}

-- ---- the values
-- The grid's values that a list begins with, in the order of the header: cells along x, y, z, cell edge, origin x, y, z.
abbrev pub grid_from : List ℤ → GridValues
grid_from ns = record { nx = number_at ns 0; ny = number_at ns 1; nz = number_at ns 2; edge = number_at ns 3; x = number_at ns 4; y = number_at ns 5; z = number_at ns 6 }

-- The numbers of a header, in its order: version 1, the grid's values, the triangle count, and zero for its last bits.
abbrev pub header_to_write : GridValues → (count : ℕ) → List ℤ
header_to_write g n = pos 1 ∷ g.nx ∷ g.ny ∷ g.nz ∷ g.edge ∷ g.x ∷ g.y ∷ g.z ∷ pos n ∷ pos 0 ∷ []

-- How many whole triangles a list has, ten numbers each.
abbrev pub triangle_count : List ℤ → ℕ
triangle_count zs = length zs / 10

-- ---- the questions
-- In turn, of a grid's values, the numbers of triangles, and the room for the file: the header fits, with the count; no part
-- of a triangle is left over; each triangle fits; then, the room is as long as the file.
abbrev pub write_questions : Layout → GridValues → List ℤ → (room : ℕ) → List Question
write_questions l g zs room =
    let n = triangle_count zs in
    (12 asks header_fits l (header_to_write g n))
    ∷ (12 asks eqb (length zs % 10) 0)
    ∷ (12 asks all_below (λ i. triangle_fits l (triangle_numbers zs i)) n)
    ∷ (11 asks leb (record_start l n) room)
    ∷ []

-- ---- the file
-- The lists f 0, f 1 and so on, n of them, one behind the other.
unfoldable pub concat_below : {A : Type 0} → (ℕ → List A) → ℕ → List A
concat_below f zero = []
concat_below f (suc n) = concat_below f n ++ f n

-- A header, and behind it a record for each triangle.
abbrev pub records_bytes : Layout → List ℤ → (count : ℕ) → List ℕ
records_bytes l zs n = concat_below (λ i. record_bytes l (triangle_numbers zs i)) n

abbrev pub file_bytes : Layout → GridValues → List ℤ → List ℕ
file_bytes l g zs = let n = triangle_count zs in header_bytes l (header_to_write g n) ++ records_bytes l zs n

-- ---- what the call says and leaves
-- It gives the file's length.
unfoldable pub writing : GridValues → List ℤ → (room : ℕ) → Answer ℕ
writing g zs room = answered (write_questions version1 g zs room) (record_start version1 (triangle_count zs))

-- The file stands at the start of the output. The bytes behind it are what they were, and all are after a refusal.
unfoldable pub written_bytes : GridValues → List ℤ → (out : List ℕ) → List ℕ
written_bytes g zs out =
    unless_refused (writing g zs (length out)) (file_bytes version1 g zs ++ drop (record_start version1 (triangle_count zs)) out) out
