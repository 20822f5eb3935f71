-- The whole number nearest to a float, a half going to the even one. Definitions only; no real numbers are used.
use Rattle.std.specs.Prelude.{◌≡◌, ℕ, ◌*◌, ◌%◌, ◌≤◌, Bool, true, false, cond, not, ◌&&◌, T, ℤ, pos, negsuc, ◌-ℤ◌, ◌*ℤ◌, neg_ℤ, int_le, unsigned_abs, Float, Result, Ok, Err}
use Rattle.std.specs.Float.{nan, inf, fin}
use Rattle.std.specs.Float.Ieee.{up, down}
use Rattle.std.specs.Float.Ieee.Nearest.{closest}
use Rattle.rounding.specs.declared.Unrounded.{Unrounded}
use Rattle.rounding.specs.declared.Unrounded.TheVariants.{NotFinite, OutOfRange}

-- ---- the exact value
-- A float is not a number, or infinite with a sign, or finite: `fin s m e` is the significand m times 2 ^ e, negative where s is true.
-- The library writes 2 ^ e as the fraction up e / down e of two whole numbers, so that the value of a finite float is `scaled x / unit x`.
abbrev pub finite : Float → Bool
finite nan = false
finite (inf s) = false
finite (fin s m e) = true

-- The number with this size, negative where s is true.
abbrev pub signed_by : (s : Bool) → ℕ → ℤ
signed_by true n = neg_ℤ (pos n)
signed_by false n = pos n

abbrev pub scaled : Float → ℤ
scaled nan = pos 0
scaled (inf s) = pos 0
scaled (fin s m e) = signed_by s (m * up e)

abbrev pub unit : Float → ℕ
unit nan = 1
unit (inf s) = 1
unit (fin s m e) = down e

-- ---- the nearest whole number
-- r is the whole number nearest to x / d: twice the distance from x to r × d is at most d; and where it is d, at a half, r is even.
pub record Nearest (x : ℤ) (d : ℕ) (r : ℤ) : Type 0 where
  pub half : 2 * unsigned_abs (x -ℤ r *ℤ pos d) ≤ d
  pub even : 2 * unsigned_abs (x -ℤ r *ℤ pos d) ≡ d → unsigned_abs r % 2 ≡ 0

-- The number itself. `closest a d` is a / d without its fraction where twice the rest is below d, one more where it is above, and the even one of the two where it is d.
abbrev pub whole_of : Float → ℤ
whole_of nan = pos 0
whole_of (inf s) = pos 0
whole_of (fin s m e) = signed_by s (closest (m * up e) (down e))

-- From -8,192 to 8,191, as a coordinate of a frame file.
abbrev pub in_range : ℤ → Bool
in_range r = int_le (negsuc 8191) r && int_le r (pos 8191)

-- What a float is rounded to, "infinite or not a number" and "outside" told apart.
abbrev pub rounded_of : Float → Result ℤ Unrounded
rounded_of nan = Err NotFinite
rounded_of (inf s) = Err NotFinite
rounded_of (fin s m e) = cond (in_range (whole_of (fin s m e))) (Ok (whole_of (fin s m e))) (Err OutOfRange)

-- Is there a whole number?
abbrev pub is_whole : Result ℤ Unrounded → Bool
is_whole (Ok r) = true
is_whole (Err why) = false

-- It, and 0 where there is none.
abbrev pub millimetres : Result ℤ Unrounded → ℤ
millimetres (Ok r) = r
millimetres (Err why) = pos 0

-- ---- what each answer means
pub record Rounds (x : Float) (r : ℤ) : Type 0 where
  pub exact : T (finite x)
  pub nearest : Nearest (scaled x) (unit x) r
  pub ranged : T (in_range r)

abbrev pub Says : Float → Result ℤ Unrounded → Type 0
Says x (Ok r) = Rounds x r
Says x (Err NotFinite) = T (not (finite x))
Says x (Err OutOfRange) = T (finite x) × Nearest (scaled x) (unit x) (whole_of x) × T (not (in_range (whole_of x)))
