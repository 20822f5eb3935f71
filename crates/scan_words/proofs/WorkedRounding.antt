-- Doubles and floats by their bits, and what they are rounded to, by computation on the definitions: halves, the ends of the range, the smallest and
-- the largest, zeros, infinities, and what is not a number.
-- Assumes nothing.
use Rattle.std.specs.Prelude.{Result, Ok, Err}
use mathlib.Core.Path.{◌≡◌, refl}
use Prim.Native.Nat.{ℕ}
use lib.IntN.{ℤ, pos, neg_ℤ}
use lib.Ieee.{binary32, binary64, of_bits}
use Rattle.rounding.specs.declared.Unrounded.{Unrounded}
use Rattle.rounding.specs.declared.Unrounded.TheVariants.{NotFinite, OutOfRange}
use Rattle.rounding.specs.Rounding.{rounded_of}

abbrev double : ℕ → Result ℤ Unrounded
double b = rounded_of (of_bits binary64 b)

abbrev float : ℕ → Result ℤ Unrounded
float b = rounded_of (of_bits binary32 b)

-- ---- doubles
-- a half goes to the even number
pub two-and-a-half : double 0x4004_0000_0000_0000 ≡ Ok (pos 2)
unfolding of_bits
two-and-a-half = refl

pub three-and-a-half : double 0x400c_0000_0000_0000 ≡ Ok (pos 4)
unfolding of_bits
three-and-a-half = refl

pub minus-a-half : double 0xbfe0_0000_0000_0000 ≡ Ok (pos 0)
unfolding of_bits
minus-a-half = refl

pub minus-two-and-a-half : double 0xc004_0000_0000_0000 ≡ Ok (neg_ℤ (pos 2))
unfolding of_bits
minus-two-and-a-half = refl

-- the largest double below 0.5
pub below-a-half : double 0x3fdf_ffff_ffff_ffff ≡ Ok (pos 0)
unfolding of_bits
below-a-half = refl

-- the ends of the range: 8,191.5 and the double next below it, -8,192.5 and the double next below it
pub high-out : double 0x40bf_ff80_0000_0000 ≡ Err OutOfRange
unfolding of_bits
high-out = refl

pub high-in : double 0x40bf_ff7f_ffff_ffff ≡ Ok (pos 8191)
unfolding of_bits
high-in = refl

pub low-in : double 0xc0c0_0040_0000_0000 ≡ Ok (neg_ℤ (pos 8192))
unfolding of_bits
low-in = refl

pub low-out : double 0xc0c0_0040_0000_0001 ≡ Err OutOfRange
unfolding of_bits
low-out = refl

-- the largest double
pub largest : double 0x7fef_ffff_ffff_ffff ≡ Err OutOfRange
unfolding of_bits
largest = refl

-- the smallest double above 0, the largest subnormal with a sign, and -0
pub smallest : double 0x0000_0000_0000_0001 ≡ Ok (pos 0)
unfolding of_bits
smallest = refl

pub subnormal : double 0x800f_ffff_ffff_ffff ≡ Ok (pos 0)
unfolding of_bits
subnormal = refl

pub minus-zero : double 0x8000_0000_0000_0000 ≡ Ok (pos 0)
unfolding of_bits
minus-zero = refl

-- the infinities
pub infinity : double 0x7ff0_0000_0000_0000 ≡ Err NotFinite
unfolding of_bits
infinity = refl

pub minus-infinity : double 0xfff0_0000_0000_0000 ≡ Err NotFinite
unfolding of_bits
minus-infinity = refl

-- not a number: quiet, and signalling with a sign
pub quiet : double 0x7ff8_0000_0000_0000 ≡ Err NotFinite
unfolding of_bits
quiet = refl

pub signalling : double 0xfff0_0000_0000_0001 ≡ Err NotFinite
unfolding of_bits
signalling = refl

-- ---- floats
-- 2.5 and -0.5
pub float-two-and-a-half : float 0x4020_0000 ≡ Ok (pos 2)
unfolding of_bits
float-two-and-a-half = refl

pub float-minus-a-half : float 0xbf00_0000 ≡ Ok (pos 0)
unfolding of_bits
float-minus-a-half = refl

-- the same ends
pub float-high-out : float 0x45ff_fc00 ≡ Err OutOfRange
unfolding of_bits
float-high-out = refl

pub float-high-in : float 0x45ff_fbff ≡ Ok (pos 8191)
unfolding of_bits
float-high-in = refl

pub float-low-in : float 0xc600_0200 ≡ Ok (neg_ℤ (pos 8192))
unfolding of_bits
float-low-in = refl

pub float-low-out : float 0xc600_0201 ≡ Err OutOfRange
unfolding of_bits
float-low-out = refl

-- the smallest float above 0, -0, infinite, and not a number
pub float-smallest : float 0x0000_0001 ≡ Ok (pos 0)
unfolding of_bits
float-smallest = refl

pub float-minus-zero : float 0x8000_0000 ≡ Ok (pos 0)
unfolding of_bits
float-minus-zero = refl

pub float-minus-infinity : float 0xff80_0000 ≡ Err NotFinite
unfolding of_bits
float-minus-infinity = refl

pub float-quiet : float 0x7fc0_0000 ≡ Err NotFinite
unfolding of_bits
float-quiet = refl
