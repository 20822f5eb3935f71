-- Worked examples, by computation on the definitions: answers as a C program sees them, in base sixteen; the length of a grid's list; and weights in a lent list.
-- Assumes nothing.
use mathlib.Core.List.{List, [], ◌∷◌}
use mathlib.Core.Path.{◌≡◌, refl}
use lib.IntN.{ℤ, pos}
use lib.ListN.{replicate}
use Rattle.refusal.specs.Limit.{gives, refused}
use Rattle.std.specs.Prelude.{Some, None}
use Rattle.desk.specs.Bar.{bar_roomed, packed_bar, with_weights}
use Rattle.desk.specs.Calls.{list_writing, list_bytes, list_scanning, list_scan_bytes}

-- record 4,094 with room for three weights, and for two; clear; cell 8 of 8
pub bars :
    (packed_bar (bar_roomed (gives (Some 4094)) 3) ∷ packed_bar (bar_roomed (gives (Some 4094)) 2) ∷ packed_bar (bar_roomed (gives None) 0) ∷ packed_bar (bar_roomed (refused 16 0) 3) ∷ [])
    ≡ (0x0000000000000ffe ∷ 0x0400000000000003 ∷ 0x0500000000000000 ∷ 0x0110000000000000 ∷ [])
bars = refl

pub weights : with_weights (record { w0 = pos 1; w1 = pos 2; w2 = pos 3 }) (replicate 4 (pos 9)) ≡ (pos 1 ∷ pos 2 ∷ pos 3 ∷ pos 9 ∷ [])
weights = refl

-- six values, and eight
abbrev six : List ℤ
six = pos 2 ∷ pos 2 ∷ pos 2 ∷ pos 10 ∷ pos 0 ∷ pos 0 ∷ []

pub not-seven : (list_writing six [] 12 ∷ list_writing (pos 0 ∷ pos 0 ∷ six) [] 12 ∷ list_scanning [] six 12 ∷ list_scanning [] (pos 0 ∷ pos 0 ∷ six) 12 ∷ []) ≡ replicate 4 (refused 12 0)
unfolding list_writing list_scanning
not-seven = refl

pub left : (list_bytes six [] (0xaa ∷ []) ∷ list_scan_bytes [] six (0xaa ∷ []) ∷ []) ≡ replicate 2 (0xaa ∷ [])
unfolding list_bytes list_scan_bytes
left = refl
