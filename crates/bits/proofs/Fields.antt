-- Laws of bit fields.
--     field_lt       a field of w bits is below 2 ^ w
--     field-split    a field in two parts
--     field-part     a field inside another, by a shift and a remainder
--     field-of-word  a field out of the four bytes that have it
--     byte-field     a byte is a field of 8 bits
--     one_shl        1 shifted left inside a word is a power of 2
-- Assumes nothing.
use mathlib.Core.Path.{◌≡◌, sym, ap, ◌∙◌}
use mathlib.Core.List.{List}
use Prim.Native.Nat.{ℕ, zero, suc, ◌+◌, ◌-◌, ◌*◌, ◌/◌, ◌%◌, ◌^◌, ◌<◌, ◌≤◌}
use native.Mathlib.Nat.{add_assoc, add-zero, add-suc, mul_assoc, div-one, div-eq_of_lt, pow-suc, one-mul, mod-eq_of_lt}
use native.Mathlib.Omega.{arith}
use lib.ListN.{get_or}
use lib.Pow.{pow-lt, high, low, shr-shr}
use Rattle.bits.specs.Field.{bit_at, field_at}

pub field_lt : (s : List ℕ) (p w : ℕ) → field_at s p w < 2 ^ w
unfolding field_at bit_at
field_lt s p zero = omega arith
field_lt s p (suc w) = omega (arith, field_lt s p w, pow-suc 2 w)

pub field-split : (s : List ℕ) (p a b : ℕ) → field_at s p (a + b) ≡ field_at s p a * 2 ^ b + field_at s (p + a) b
unfolding field_at
field-split s p a zero = rw add-zero (omega arith)
field-split s p a (suc b) =
    rw (add-suc a b, field-split s p a b, pow-suc 2 b, ← mul_assoc (field_at s p a) (2 ^ b) 2, ← add_assoc p a b)
    (omega arith)

-- The w bits behind the first a bits of a field of n bits.
pub field-part : (s : List ℕ) (p n a w : ℕ) → a + w ≤ n → field_at s p n / 2 ^ (n - a - w) % 2 ^ w ≡ field_at s (p + a) w
field-part s p n a w h =
    let r = n - a - w in
    let whole : n ≡ a + w + r = omega arith in
    rw (ap (field_at s p) whole, field-split s p (a + w) r, high (field_at s p (a + w)) r (field_lt s (p + (a + w)) r), field-split s p a w)
    (low (field_at s p a) w (field_lt s (p + a) w))

-- The first w bits of a byte.
byte-part : (s : List ℕ) (i w : ℕ) → get_or s i 0 < 256 → w ≤ 8 → field_at s (i * 8) w ≡ get_or s i 0 / 2 ^ (8 - w)
unfolding field_at bit_at
byte-part s i zero h k = sym (div-eq_of_lt h)
byte-part s i (suc w) h k =
    let byte : (i * 8 + w) / 8 ≡ i = omega arith in
    let shift : 7 - (i * 8 + w) % 8 ≡ 8 - suc w = omega arith in
    let more : 8 - w ≡ (8 - suc w) + 1 = omega arith in
    rw (byte-part s i w h (omega arith), byte, shift, more, ← shr-shr (get_or s i 0) (8 - suc w) 1) (omega arith)

pub byte-field : (s : List ℕ) (i : ℕ) → get_or s i 0 < 256 → field_at s (i * 8) 8 ≡ get_or s i 0
byte-field s i h = byte-part s i 8 h (omega arith) ∙ div-one (get_or s i 0)

-- ---- bytes into a word
module _ (s : List ℕ) (bytes : (i : ℕ) → get_or s i 0 < 256) where
  half-word : (i : ℕ) → field_at s (i * 8) 16 ≡ get_or s i 0 * 256 + get_or s (i + 1) 0
  half-word i =
      let next : i * 8 + 8 ≡ (i + 1) * 8 = omega arith in
      rw (field-split s (i * 8) 8 8, next, byte-field s i (bytes i), byte-field s (i + 1) (bytes (i + 1)))

  -- Four bytes, as two numbers of two bytes.
  pub word-field : (i : ℕ) → field_at s (i * 8) 32 ≡ (get_or s i 0 * 256 + get_or s (i + 1) 0) * 65536 + (get_or s (i + 2) 0 * 256 + get_or s (i + 3) 0)
  word-field i =
      let next : i * 8 + 16 ≡ (i + 2) * 8 = omega arith in
      let last : i + 2 + 1 ≡ i + 3 = omega arith in
      rw (field-split s (i * 8) 16 16, next, half-word i, half-word (i + 2), last)

-- The w bits at bit p, out of the word of four bytes that has them.
pub field-of-word : (s : List ℕ) (p w : ℕ) → w ≤ 25 → field_at s (p / 8 * 8) 32 / 2 ^ (32 - p % 8 - w) % 2 ^ w ≡ field_at s p w
field-of-word s p w h =
    let here : p / 8 * 8 + p % 8 ≡ p = omega arith in
    field-part s (p / 8 * 8) 32 (p % 8) w (omega arith) ∙ ap (λ (q : ℕ). field_at s q w) here

-- ---- a shift of 1 in a word of b bits
pub one_shl : (b w : ℕ) → w < b → 1 * 2 ^ w % 2 ^ b ≡ 2 ^ w
one_shl b w h = rw one-mul (mod-eq_of_lt (pow-lt h))
