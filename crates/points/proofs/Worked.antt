-- A worked example, by computation on the definition: the numbers of two points. Assumes nothing.
use mathlib.Core.List.{[], ◌∷◌}
use mathlib.Core.Path.{◌≡◌, refl}
use lib.IntN.{pos}
use Rattle.points.specs.Points.{numbers_of}

pub two-points : numbers_of (record { x = pos 1; y = pos 2; z = pos 3 } ∷ record { x = pos 4; y = pos 5; z = pos 6 } ∷ []) ≡ (pos 1 ∷ pos 2 ∷ pos 3 ∷ pos 4 ∷ pos 5 ∷ pos 6 ∷ [])
two-points = refl
