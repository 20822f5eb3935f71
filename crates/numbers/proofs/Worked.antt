-- Worked examples, by computation on the definitions: the numbers of a reading, in order; and a lent list with and without room for them. Assumes nothing.
use mathlib.Core.List.{[], ◌∷◌}
use mathlib.Core.Path.{◌≡◌, refl}
use lib.IntN.{pos}
use lib.ListN.{replicate}
use Rattle.geometry.specs.Geometry.{point, triangle}
use Rattle.layout.specs.declared.Header.{Header}
use Rattle.layout.specs.declared.Record.{Record}
use Rattle.std.specs.Prelude.{Some, None}
use Rattle.numbers.specs.Numbers.{contents_numbers, written}

abbrev values : Header
values = record { version = 1; grid = record { nx = 2; ny = 3; nz = 4; edge = pos 5; origin = point (pos 6) (pos 7) (pos 8) }; count = 9 }

abbrev a-record : Record
a-record = record { kind = 10; triangle = triangle (point (pos 11) (pos 12) (pos 13)) (point (pos 14) (pos 15) (pos 16)) (point (pos 17) (pos 18) (pos 19)) }

pub nineteen : contents_numbers (record { header = values; found = Some a-record })
    ≡ (pos 1 ∷ pos 2 ∷ pos 3 ∷ pos 4 ∷ pos 5 ∷ pos 6 ∷ pos 7 ∷ pos 8 ∷ pos 9 ∷ pos 10 ∷ pos 11 ∷ pos 12 ∷ pos 13 ∷ pos 14 ∷ pos 15 ∷ pos 16 ∷ pos 17 ∷ pos 18 ∷ pos 19 ∷ [])
nineteen = refl

pub nine : contents_numbers (record { header = values; found = None }) ≡ (pos 1 ∷ pos 2 ∷ pos 3 ∷ pos 4 ∷ pos 5 ∷ pos 6 ∷ pos 7 ∷ pos 8 ∷ pos 9 ∷ [])
nine = refl

pub lent : (written (pos 1 ∷ pos 2 ∷ []) (replicate 3 (pos 0)) ∷ written (pos 1 ∷ pos 2 ∷ []) (replicate 1 (pos 0)) ∷ []) ≡ ((pos 1 ∷ pos 2 ∷ pos 0 ∷ []) ∷ (pos 0 ∷ []) ∷ [])
lent = refl
