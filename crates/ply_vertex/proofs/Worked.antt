-- Vertices of some types, by computation on the definitions.
--     singles, double-x, double-y, double-z, doubles   how many bytes they have
--     one-two-three                                    and where each number stands
--     wide_int, minus_one                              an int has 32 bits
-- Assumes nothing.
use mathlib.Core.List.{[], ◌∷◌}
use mathlib.Core.Path.{◌≡◌, refl}
use lib.IntN.{pos, negsuc}
use lib.Ieee.{binary64, of_int}
use Rattle.rounding.specs.declared.Number.TheVariants as N
use Rattle.ply_header.specs.declared.Scalar.{Scalar}
use Rattle.ply_header.specs.declared.Scalar.TheVariants.{Float, Double, Int}
use Rattle.ply_header.specs.declared.Form.{Form}
use Rattle.ply_vertex.specs.Vertex.{number_at, size_of, vertex_at}

abbrev form : (x y z : Scalar) → Form
form x y z = record { x = x; y = y; z = z; vertices = 0; faces = 0; body = 0 }

-- ---- how many bytes
pub singles : size_of (form Float Int Float) ≡ 12
unfolding size_of
singles = refl

pub double-x : size_of (form Double Int Float) ≡ 16
unfolding size_of
double-x = refl

pub double-y : size_of (form Int Double Float) ≡ 16
unfolding size_of
double-y = refl

pub double-z : size_of (form Int Float Double) ≡ 16
unfolding size_of
double-z = refl

pub doubles : size_of (form Double Double Double) ≡ 24
unfolding size_of
doubles = refl

-- ---- where each number stands
pub one-two-three : vertex_at (1 ∷ 0 ∷ 0 ∷ 0 ∷ 2 ∷ 0 ∷ 0 ∷ 0 ∷ 3 ∷ 0 ∷ 0 ∷ 0 ∷ []) (form Int Int Int) 0
    ≡ record { x = of_int binary64 (pos 1); y = of_int binary64 (pos 2); z = of_int binary64 (pos 3) }
unfolding vertex_at
one-two-three = refl

-- ---- ints
-- 65,536
pub wide_int : number_at Int (0x00 ∷ 0x00 ∷ 0x01 ∷ 0x00 ∷ []) 0 ≡ N.Int (pos 65536)
wide_int = refl

pub minus_one : number_at Int (0xff ∷ 0xff ∷ 0xff ∷ 0xff ∷ []) 0 ≡ N.Int (negsuc 0)
minus_one = refl
