-- Bit patterns: which are no number's.
--     nan-of, not-nan    the patterns above that of infinity, and the others
--     nan-no, whole-yes  what is not a number is not rounded to one
-- Assumes nothing.
use mathlib.Core.Bool.{Bool, true, false, not, true≢false}
use mathlib.Core.List.{List}
use mathlib.Core.Path.{◌≡◌, refl, sym, ◌∙◌, subst}
use Prim.Native.Nat.{ℕ, ◌*◌, ◌%◌}
use lib.Dec.{T, ltb}
use lib.Ieee.{Float as F, nan, inf, fin, Format, binary32, binary64, ones, hid, top, of_bits, nan_bits, is_nan}
use lib.Ieee.Bits.{nan_bits_is, nan_bits_above}
use Rattle.rounding.specs.Rounding.{rounded_of, is_whole}
use Rattle.rounding.specs.Widening.{widened_of}
use Rattle.ply_header.specs.declared.Scalar.{Scalar}
use Rattle.ply_header.specs.declared.Scalar.TheVariants.{Float, Double, Int}
use Rattle.ply_vertex.specs.Vertex.{little_endian, number_at}
use Rattle.ply_vertex.specs.Inner.{nan_at}

-- ---- not a number
pub nan-of : (f : Format) (n : ℕ) → ltb (ones f * hid f) (n % top f) ≡ is_nan (of_bits f n)
nan-of f n = sym (nan_bits_above f n) ∙ nan_bits_is f n

pub not-nan : (f : Format) (n : ℕ) → is_nan (of_bits f n) ≡ false → T (not (nan_bits f n))
not-nan f n e = subst (λ (b : Bool). T (not b)) (sym (nan_bits_is f n ∙ e)) tt

-- what is not a number is not rounded to one
nan-float : (x : F) → is_nan x ≡ true → false ≡ is_whole (rounded_of x)
unfolding is_nan
nan-float nan e = refl
nan-float (inf s) e = refl
nan-float (fin s m k) e = absurd (true≢false (sym e))

float-nan : (x : F) → is_whole (rounded_of x) ≡ true → is_nan x ≡ false
unfolding is_nan
float-nan nan e = absurd (true≢false (sym e))
float-nan (inf s) e = refl
float-nan (fin s m k) e = refl

module _ (s : List ℕ) (at : ℕ) where
  pub nan-no : (t : Scalar) → nan_at t s at ≡ true → false ≡ is_whole (rounded_of (widened_of (number_at t s at)))
  nan-no Float e = nan-float (of_bits binary32 (little_endian s at 4)) e
  nan-no Double e = nan-float (of_bits binary64 (little_endian s at 8)) e
  nan-no Int e = absurd (true≢false (sym e))

  pub whole-yes : (t : Scalar) → is_whole (rounded_of (widened_of (number_at t s at))) ≡ true → nan_at t s at ≡ false
  whole-yes Float e = float-nan (of_bits binary32 (little_endian s at 4)) e
  whole-yes Double e = float-nan (of_bits binary64 (little_endian s at 8)) e
  whole-yes Int e = refl
