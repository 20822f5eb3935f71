-- Worked examples, by computation on the definitions: answers as printed in base sixteen. Assumes nothing.
use mathlib.Core.Path.{◌≡◌, refl}
use Rattle.refusal.specs.Limit.{gives, refused}
use Rattle.pack.specs.Pack.{packed, packed_count}

-- tag, number, leg, and a count, a place or a cell
pub in-turn : packed 0x12 0x34 0x5678 0x9abcdef0 ≡ 0x123456789abcdef0
in-turn = refl

-- a full map; record 4,094 with kind 3
pub full : packed_count (gives 262144) ≡ 0x40000
full = refl

pub unused-kind : packed_count (refused 7 4094) ≡ 0x0107000000000ffe
unused-kind = refl
