-- The printed header and the record of row a, written; a number below 0; and each of them read again. Assumes nothing.
use mathlib.Core.List.{[], ◌∷◌, ◌++◌}
use mathlib.Core.Path.{◌≡◌, refl}
use lib.IntN.{pos, neg_ℤ}
use lib.ListN.{replicate}
use Rattle.layout.specs.Layout.{version1}
use Rattle.layout_write.specs.Writing.{header_bytes, record_bytes}
use Rattle.bits.specs.Field.{bytes_of}
use Rattle.frame_write.specs.declared.GridValues.{GridValues}
use Rattle.frame_write.specs.Write.{concat_below, file_bytes}

-- 2 × 2 × 2 cells, edge 10, origin 0
abbrev worked-grid : GridValues
worked-grid = record { nx = pos 2; ny = pos 2; nz = pos 2; edge = pos 10; x = pos 0; y = pos 0; z = pos 0 }

pub worked-file : file_bytes version1 worked-grid (pos 0 ∷ replicate 9 (pos 5))
    ≡ (0x10 ∷ 0x41 ∷ 0x04 ∷ 0x28 ∷ 0x00 ∷ 0x00 ∷ 0x00 ∷ 0x00 ∷ 0x00 ∷ 0x00 ∷ 0x10 ∷ 0x00 ∷ [])
    ++ (0x00 ∷ 0x05 ∷ 0x00 ∷ 0x14 ∷ 0x00 ∷ 0x50 ∷ 0x01 ∷ 0x40 ∷ 0x05 ∷ 0x00 ∷ 0x14 ∷ 0x00 ∷ 0x50 ∷ 0x01 ∷ 0x40 ∷ 0x05 ∷ [])
unfolding header_bytes record_bytes bytes_of concat_below
worked-file = refl

-- kind 1, and −1 nine times: a 0, and ones
pub worked-negative : record_bytes version1 (pos 1 ∷ replicate 9 (neg_ℤ (pos 1))) ≡ 0x7f ∷ replicate 15 0xff
unfolding record_bytes bytes_of
worked-negative = refl
