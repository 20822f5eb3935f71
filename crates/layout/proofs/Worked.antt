-- Worked examples, by computation on the definitions: the printed header of document 01, headers and a record with numbers at the ends of their fields, and where
-- records begin. So a changed width, length or order is seen here. Assumes nothing.
--     farthest-most    the farthest coordinate is the greatest that a coordinate's field can hold
use mathlib.Core.List.{List, [], ◌∷◌}
use mathlib.Core.Path.{◌≡◌, refl}
use Prim.Native.Nat.{ℕ, ◌-◌, ◌^◌}
use lib.IntN.{pos, neg_ℤ, ◌-ℤ◌}
use lib.ListN.{length, replicate}
use Rattle.bits.specs.Field.{bit_at, field_at, signed_at}
use Rattle.geometry.specs.Geometry.{point, triangle}
use Rattle.layout.specs.Layout.{version1, record_start}
use Rattle.layout.specs.Values.{header_in, reserved_in, from_record, record_in, kind_in}

-- ---- headers
pub printed : header_in version1 (0x10 ∷ 0x41 ∷ 0x04 ∷ 0x28 ∷ 0x00 ∷ 0x00 ∷ 0x00 ∷ 0x00 ∷ 0x00 ∷ 0x00 ∷ 0x10 ∷ 0x00 ∷ [])
    ≡ record { version = 1; grid = record { nx = 2; ny = 2; nz = 2; edge = pos 10; origin = point (pos 0) (pos 0) (pos 0) }; count = 1 }
unfolding bit_at field_at signed_at header_in
printed = refl

-- other numbers along each axis, the least and the greatest origin
pub ends : header_in version1 (0x1f ∷ 0xc0 ∷ 0x04 ∷ 0x06 ∷ 0x00 ∷ 0x07 ∷ 0xff ∷ 0xff ∷ 0xff ∷ 0xff ∷ 0xf0 ∷ 0x01 ∷ [])
    ≡ record { version = 1; grid = record { nx = 64; ny = 1; nz = 2; edge = pos 1; origin = point (neg_ℤ (pos 8192)) (pos 8191) (neg_ℤ (pos 1)) }; count = 4095 }
unfolding bit_at field_at signed_at header_in
ends = refl

-- every bit set: 64 cells, an edge of 255, a count of 4,095, and twelve bits behind it
pub ones : header_in version1 (replicate 12 0xff)
    ≡ record { version = 15; grid = record { nx = 64; ny = 64; nz = 64; edge = pos 255; origin = point (neg_ℤ (pos 1)) (neg_ℤ (pos 1)) (neg_ℤ (pos 1)) }; count = 4095 }
unfolding bit_at field_at signed_at header_in
ones = refl

pub last-bits : reserved_in version1 (replicate 12 0xff) ≡ 4095
unfolding bit_at field_at signed_at reserved_in
last-bits = refl

-- ---- records
abbrev a-record : List ℕ
a-record = 0xa0 ∷ 0x00 ∷ 0x7f ∷ 0xff ∷ 0xff ∷ 0xf0 ∷ 0x00 ∷ 0x40 ∷ 0x02 ∷ 0x00 ∷ 0x0f ∷ 0xff ∷ 0xcf ∷ 0xfe ∷ 0xc0 ∷ 0x06 ∷ []

pub other-numbers : record_in version1 a-record
    ≡ record { kind = 2; triangle = triangle (point (neg_ℤ (pos 8192)) (pos 8191) (neg_ℤ (pos 1))) (point (pos 1) (pos 2) (pos 3)) (point (neg_ℤ (pos 4)) (neg_ℤ (pos 5)) (pos 6)) }
unfolding bit_at field_at signed_at record_in
other-numbers = refl

pub its-kind : kind_in version1 a-record ≡ 2
unfolding bit_at field_at signed_at kind_in
its-kind = refl

-- records begin at 12, 28, 44; from record 1 on a file of two has 16 bytes
pub starts : (record_start version1 0 ∷ record_start version1 1 ∷ record_start version1 2 ∷ []) ≡ (12 ∷ 28 ∷ 44 ∷ [])
starts = refl

pub from_second : length (from_record version1 (replicate 44 0x00) 1) ≡ 16
from_second = refl

pub farthest-most : version1.farthest ≡ pos (2 ^ (version1.coordinate - 1)) -ℤ pos 1
farthest-most = refl
