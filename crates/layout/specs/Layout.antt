-- The printed layout of the frame file: a header and records, each a list of fields, and how they are split into numbers. Definitions only.
use Rattle.std.specs.Prelude.{List, [], ◌∷◌, ℕ, ◌+◌, ◌*◌, ℤ, pos}
use lib.Dec.{lit≤}
use Rattle.bits.specs.Field.{field_at, signed_at}
use Rattle.layout.specs.declared.Layout.{Layout}

-- How a field's bits are read: as an unsigned number; as one that is stored less one; or as two's complement.
pub data Coding : Type 0 where
  plain : Coding
  less_one : Coding
  signed : Coding

-- A field: its coding, and how many bits it has.
pub record FieldForm : Type 0 where
  pub coding : Coding
  pub bits : ℕ

abbrev pub field : Coding → ℕ → FieldForm
field c w = record { coding = c; bits = w }

-- x, y and z, signed, w bits each, and further fields.
abbrev pub coordinates : ℕ → List FieldForm → List FieldForm
coordinates w fs = field signed w ∷ field signed w ∷ field signed w ∷ fs

-- Version 1: a header of 12 bytes; records that begin 16 bytes apart; a cell edge of 8 bits, coordinates of 14 bits; and no grid
-- reaches beyond 8,191.
abbrev pub version1 : Layout
version1 = record {
  header = 12;
  stride = 16;
  edge = 8;
  coordinate = 14;
  farthest = pos 8191;
  header_most = lit≤ tt;
  stride_most = lit≤ tt;
  edge_some = lit≤ tt;
  edge_most = lit≤ tt;
  coordinate_some = lit≤ tt;
  coordinate_most = lit≤ tt;
}

-- The header: version, cells along x, y, z, cell edge, origin x, y, z, triangle count, zero bits.
abbrev pub header_fields : Layout → List FieldForm
header_fields l =
    field plain 4 ∷ field less_one 6 ∷ field less_one 6 ∷ field less_one 6 ∷ field plain l.edge
    ∷ coordinates l.coordinate (field plain 12 ∷ field plain 12 ∷ [])

-- A record: kind, then x, y, z of the corners 0, 1 and 2.
abbrev pub record_fields : Layout → List FieldForm
record_fields l = field plain 2 ∷ coordinates l.coordinate (coordinates l.coordinate (coordinates l.coordinate []))

-- The byte at which record i begins.
abbrev pub record_start : Layout → ℕ → ℕ
record_start l i = l.header + l.stride * i

-- ---- reading
-- The number that w bits from bit p on hold.
abbrev pub decoded : Coding → List ℕ → (p w : ℕ) → ℤ
decoded plain s p w = pos (field_at s p w)
decoded less_one s p w = pos (field_at s p w + 1)
decoded signed s p w = signed_at s p w

-- The numbers of fields that stand one behind the other, the first from bit p on.
abbrev pub split : List FieldForm → List ℕ → (p : ℕ) → List ℤ
split [] s p = []
split (f ∷ fs) s p = decoded f.coding s p f.bits ∷ split fs s (p + f.bits)
