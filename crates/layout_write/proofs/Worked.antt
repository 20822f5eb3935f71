-- Worked examples, by computation on the definitions: the least and the greatest number of a field of each coding. Assumes nothing.
use mathlib.Core.List.{[], ◌∷◌}
use mathlib.Core.Path.{◌≡◌, refl}
use lib.IntN.{pos, neg_ℤ}
use Rattle.layout.specs.Layout.{plain, less_one, signed}
use Rattle.layout_write.specs.Writing.{least, greatest}

-- an edge, cells and a coordinate
pub ranges : (least plain 8 ∷ greatest plain 8 ∷ least less_one 6 ∷ greatest less_one 6 ∷ least signed 14 ∷ greatest signed 14 ∷ [])
    ≡ (pos 0 ∷ pos 255 ∷ pos 1 ∷ pos 64 ∷ neg_ℤ (pos 8192) ∷ pos 8191 ∷ [])
ranges = refl
