-- Bit fields of a list of bytes, the most significant bit first. Definitions only.
use Rattle.std.specs.Prelude.{cond, List, [], ◌∷◌, ◌++◌, ℕ, zero, suc, ◌+◌, ◌-◌, ◌*◌, ◌/◌, ◌%◌, ◌^◌, ltb, ℤ, pos, nat_abs, ◌+ℤ◌, ◌-ℤ◌, get_or}

-- Bit p of the bytes s. Bits 0 to 7 are those of the first byte, bit 0 its highest. A bit past the end is 0.
unfoldable pub bit_at : List ℕ → ℕ → ℕ
bit_at s p = get_or s (p / 8) 0 / 2 ^ (7 - p % 8) % 2

-- The w bits from bit p on, as an unsigned number.
unfoldable pub field_at : List ℕ → ℕ → ℕ → ℕ
field_at s p zero = 0
field_at s p (suc w) = field_at s p w * 2 + bit_at s (p + w)

-- An unsigned number of w bits, taken as two's complement: from half of 2 ^ w on it stands for itself less 2 ^ w.
abbrev pub twos_complement : ℕ → ℕ → ℤ
twos_complement w n = cond (ltb n (2 ^ (w - 1))) (pos n) (pos n -ℤ pos (2 ^ w))

-- The w bits from bit p on, as a signed number.
unfoldable pub signed_at : List ℕ → ℕ → ℕ → ℤ
signed_at s p w = twos_complement w (field_at s p w)

-- ---- writing
-- A whole number as an unsigned one of w bits, in two's complement: below 0 it is stored as itself plus 2 ^ w.
abbrev pub complement_of : ℕ → ℤ → ℕ
complement_of w z = nat_abs (z +ℤ pos (2 ^ w)) % 2 ^ w

-- The n bytes of a number, the most significant first.
unfoldable pub bytes_of : (n number : ℕ) → List ℕ
bytes_of zero m = []
bytes_of (suc n) m = bytes_of n (m / 256) ++ (m % 256 ∷ [])
