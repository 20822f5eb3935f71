-- The header as a writer of PLY files writes it. Definitions only.
use Rattle.std.specs.Prelude.{List, [], ◌∷◌, ◌++◌, ℕ, ◌+◌, ◌*◌, ◌<◌}
use Rattle.ply_header.specs.declared.Scalar.{Scalar}
use Rattle.ply_header.specs.declared.Scalar.TheVariants.{Float, Double, Int}
use Rattle.ply_header.specs.Text.{bytes}

-- The name of a scalar type.
abbrev pub name_of : Scalar → List ℕ
name_of Float = bytes "float"
name_of Double = bytes "double"
name_of Int = bytes "int"

-- The number that digits say, in base ten: one digit, or a digit behind others.
pub data Spells : (digits : List ℕ) → ℕ → Type 0 where
  one : (d : ℕ) → d < 10 → Spells ((48 + d) ∷ []) d
  more : {ds : List ℕ} {n : ℕ} (d : ℕ) → d < 10 → Spells ds n → Spells (ds ++ (48 + d) ∷ []) (n * 10 + d)

-- The header of these types and counts, line by line, with no comment.
unfoldable pub header_text : (x y z : Scalar) (vertices faces : List ℕ) → List ℕ
header_text x y z vertices faces =
    bytes "ply\n"
    ++ bytes "format binary_little_endian 1.0\n"
    ++ bytes "element vertex " ++ vertices ++ bytes "\n"
    ++ bytes "property " ++ name_of x ++ bytes " x\n"
    ++ bytes "property " ++ name_of y ++ bytes " y\n"
    ++ bytes "property " ++ name_of z ++ bytes " z\n"
    ++ bytes "element face " ++ faces ++ bytes "\n"
    ++ bytes "property list uchar int vertex_indices\n"
    ++ bytes "end_header\n"
