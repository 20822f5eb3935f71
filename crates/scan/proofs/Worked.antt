-- Which question comes first, by computation on the definitions.
--     grid-first   an edge of 0 and an empty file: 12, and not 13
-- Assumes nothing.
use mathlib.Core.List.{[]}
use mathlib.Core.Path.{◌≡◌, refl}
use lib.IntN.{pos}
use Rattle.refusal.specs.Limit.{refused}
use Rattle.frame_write.specs.declared.GridValues.{GridValues}
use Rattle.scan.specs.Scan.{scanning}

abbrev no_edge : GridValues
no_edge = record { nx = pos 2; ny = pos 2; nz = pos 2; edge = pos 0; x = pos 0; y = pos 0; z = pos 0 }

pub grid-first : scanning no_edge [] 0 ≡ refused 12 0
unfolding scanning
grid-first = refl
