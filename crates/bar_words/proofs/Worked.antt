-- Worked examples, by computation on the definitions: the bars behind cells of frame g of document 01, 28 bytes. The fill leaves cells 1, 2 and 3 filled.
-- Assumes nothing.
use mathlib.Core.List.{List, [], ◌∷◌}
use mathlib.Core.Path.{◌≡◌, refl}
use Prim.Native.Nat.{ℕ}
use Rattle.bits.specs.Field.{bit_at, field_at, signed_at}
use Rattle.refusal.specs.Limit.{gives, refused}
use Rattle.refusal.specs.Questions.{answered, of_each}
use Rattle.overlap.specs.Rule.{overlaps_box}
use Rattle.layout.specs.Values.{header_in, reserved_in, kind_in, record_in}
use Rattle.std.specs.Prelude.{Some, None}
use Rattle.service.specs.Bar.{lowest, behind}

abbrev g : List ℕ
g = 0x10 ∷ 0x41 ∷ 0x04 ∷ 0x28 ∷ 0x00 ∷ 0x00 ∷ 0x00 ∷ 0x00 ∷ 0x00 ∷ 0x00 ∷ 0x10 ∷ 0x00 ∷ 0x00 ∷ 0x01 ∷ 0x00 ∷ 0x50 ∷ 0x00 ∷ 0x50 ∷ 0x05 ∷ 0x00 ∷ 0x14 ∷ 0x00 ∷ 0x14 ∷ 0x01 ∷ 0x40 ∷ 0x00 ∷ 0x40 ∷ 0x05 ∷ []

-- a filled cell, an empty one, and a number that no cell has
cell-3 : behind g 3 ≡ gives (Some 0)
unfolding bit_at field_at signed_at header_in reserved_in kind_in record_in answered of_each overlaps_box lowest behind
cell-3 = refl

cell-0 : behind g 0 ≡ gives None
unfolding bit_at field_at signed_at header_in reserved_in kind_in record_in answered of_each overlaps_box lowest behind
cell-0 = refl

cell-8 : behind g 8 ≡ refused 16 0
unfolding bit_at field_at signed_at header_in reserved_in kind_in record_in answered of_each overlaps_box lowest behind
cell-8 = refl

-- the last cell of the largest grid, 64 × 64 × 64 cells with the edge 1 and no triangle
abbrev largest : List ℕ
largest = 0x1f ∷ 0xff ∷ 0xfc ∷ 0x04 ∷ 0x00 ∷ 0x00 ∷ 0x00 ∷ 0x00 ∷ 0x00 ∷ 0x00 ∷ 0x00 ∷ 0x00 ∷ []

last-cell : behind largest 262143 ≡ gives None
unfolding bit_at field_at signed_at header_in reserved_in kind_in record_in answered of_each overlaps_box lowest behind
last-cell = refl
