-- The vertices of a PLY body. Definitions only. `s` is the whole file, `at` a place in it.
use Rattle.std.specs.Prelude.{Bool, ◌&&◌, List, ℕ, zero, suc, ◌+◌, ◌*◌, ◌^◌, get_or}
use Rattle.std.specs.Float.{binary32, binary64}
use Rattle.std.specs.Float.Ieee.{of_bits}
use Rattle.bits.specs.Field.{twos_complement}
use Rattle.rounding.specs.declared.Number.{Number}
use Rattle.rounding.specs.declared.Number.TheVariants as N
use Rattle.rounding.specs.declared.Vertex.{Vertex}
use Rattle.rounding.specs.Rounding.{rounded_of, is_whole}
use Rattle.rounding.specs.Widening.{widened_vertex}
use Rattle.ply_header.specs.declared.Scalar.{Scalar}
use Rattle.ply_header.specs.declared.Scalar.TheVariants.{Float, Double, Int}
use Rattle.ply_header.specs.declared.Form.{Form}

-- The number of n bytes, the lowest first.
abbrev pub little_endian : List ℕ → (at n : ℕ) → ℕ
little_endian s at zero = 0
little_endian s at (suc n) = little_endian s at n + get_or s (at + n) 0 * 256 ^ n

-- How many bytes a number of a type has.
abbrev pub width_of : Scalar → ℕ
width_of Float = 4
width_of Double = 8
width_of Int = 4

-- The number of a type: a float of IEEE 754 of 32 or 64 bits, or a whole number in two's complement.
abbrev pub number_at : Scalar → List ℕ → ℕ → Number
number_at Float s at = N.Float (of_bits binary32 (little_endian s at 4))
number_at Double s at = N.Double (of_bits binary64 (little_endian s at 8))
number_at Int s at = N.Int (twos_complement 32 (little_endian s at 4))

-- How many bytes a vertex has.
unfoldable pub size_of : Form → ℕ
size_of f = width_of f.x + width_of f.y + width_of f.z

-- The vertex at a place: x, y and z, each of its own type, one behind the other.
unfoldable pub vertex_at : List ℕ → Form → ℕ → Vertex
vertex_at s f at =
    widened_vertex (number_at f.x s at)
    (number_at f.y s (at + width_of f.x))
    (number_at f.z s (at + width_of f.x + width_of f.y))

-- Is each number of a vertex finite, and from -8,192 to 8,191 once rounded?
unfoldable pub placed : Vertex → Bool
placed v = is_whole (rounded_of v.x) && is_whole (rounded_of v.y) && is_whole (rounded_of v.z)
