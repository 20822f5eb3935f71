-- Worked examples, by computation on the definitions: fields of some bytes, numbers in two's complement, and the bytes of a number. Assumes nothing.
use mathlib.Core.List.{List, [], ◌∷◌}
use mathlib.Core.Path.{◌≡◌, refl}
use Prim.Native.Nat.{ℕ}
use lib.IntN.{pos, neg_ℤ}
use Rattle.bits.specs.Field.{bit_at, field_at, twos_complement, signed_at, complement_of, bytes_of}

abbrev some_bytes : List ℕ
some_bytes = 0x12 ∷ 0x34 ∷ 0xf6 ∷ []

-- a field over a byte's end; one that is signed; and one that ends behind the last byte
pub crossing : field_at some_bytes 4 12 ≡ 0x234
unfolding bit_at field_at
crossing = refl

pub negative : signed_at some_bytes 16 6 ≡ neg_ℤ (pos 3)
unfolding bit_at field_at signed_at
negative = refl

pub past_end : field_at some_bytes 20 8 ≡ 0x60
unfolding bit_at field_at
past_end = refl

-- 3 bits hold −4 to 3, read and stored
pub read-signed : (twos_complement 3 3 ∷ twos_complement 3 4 ∷ twos_complement 3 7 ∷ []) ≡ (pos 3 ∷ neg_ℤ (pos 4) ∷ neg_ℤ (pos 1) ∷ [])
read-signed = refl

pub stored-signed : (complement_of 3 (pos 3) ∷ complement_of 3 (neg_ℤ (pos 4)) ∷ complement_of 3 (neg_ℤ (pos 1)) ∷ []) ≡ (3 ∷ 4 ∷ 7 ∷ [])
stored-signed = refl

-- the most significant byte comes first
pub stored_bytes : bytes_of 3 0x1234f6 ≡ some_bytes
unfolding bytes_of
stored_bytes = refl
