-- The one form of a PLY header that is taken, line by line. Definitions only. `s` is the whole file, `at` a place in it.
use Rattle.std.specs.Prelude.{List, Option, Some, None, ℕ}
use Rattle.ply_header.specs.declared.Scalar.{Scalar}
use Rattle.ply_header.specs.declared.Scalar.TheVariants.{Float, Double, Int}
use Rattle.ply_header.specs.declared.Form.{Form}
use Rattle.ply_header.specs.Text.{bytes, and_then, and_read, behind, line, counted}

-- ---- a property of a vertex
-- A scalar type and the place behind it, where its name stands, and else another.
abbrev pub typed : Option ℕ → Scalar → Option (Scalar × ℕ) → Option (Scalar × ℕ)
typed (Some i) t other = Some (t, i)
typed None t other = other

-- A scalar type and the space behind it: float, double or int.
unfoldable pub scalar : (s : List ℕ) (at : ℕ) → Option (Scalar × ℕ)
scalar s at =
    typed (behind s at (bytes "float ")) Float
    (typed (behind s at (bytes "double ")) Double
    (typed (behind s at (bytes "int ")) Int
    None))

-- The next line that is no comment, as a property of a name. Each axis has its own scalar type.
unfoldable pub axis : (s : List ℕ) (at : ℕ) (name : List ℕ) → Option (Scalar × ℕ)
axis s at name =
    and_then (line s at (bytes "property ")) λ a.
    and_read (scalar s a) λ t b.
    and_then (behind s b name) λ c.
    Some (t, c)

-- ---- the header
-- The lines in order. Comments may stand before each but the first, and anything else is another form.
unfoldable pub header : (s : List ℕ) → Option Form
header s =
    and_then (behind s 0 (bytes "ply\n")) λ a.
    and_then (line s a (bytes "format binary_little_endian 1.0\n")) λ b.
    and_read (counted s b (bytes "element vertex ")) λ vertices c.
    and_read (axis s c (bytes "x\n")) λ x d.
    and_read (axis s d (bytes "y\n")) λ y e.
    and_read (axis s e (bytes "z\n")) λ z f.
    and_read (counted s f (bytes "element face ")) λ faces g.
    and_then (line s g (bytes "property list uchar int vertex_indices\n")) λ h.
    and_then (line s h (bytes "end_header\n")) λ body.
    Some (record { x = x; y = y; z = z; vertices = vertices; faces = faces; body = body })
