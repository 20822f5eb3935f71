-- Worked examples, by computation on the definitions: thousandths to the nearest, and the weighted point of a triangle. Assumes nothing.
use mathlib.Core.List.{[], ◌∷◌}
use mathlib.Core.Path.{◌≡◌, refl}
use lib.IntN.{pos, neg_ℤ}
use Rattle.geometry.specs.Geometry.{point, triangle}
use Rattle.bar_line.specs.Line.{thousandths, point_numbers}

-- 2/3, −2/3, and half a thousandth either way
pub nearest : (thousandths (pos 2) (pos 3) ∷ thousandths (neg_ℤ (pos 2)) (pos 3) ∷ thousandths (pos 1) (pos 2000) ∷ thousandths (neg_ℤ (pos 1)) (pos 2000) ∷ [])
    ≡ (pos 667 ∷ neg_ℤ (pos 667) ∷ pos 1 ∷ neg_ℤ (pos 1) ∷ [])
nearest = refl

-- the corners (1, 2, 3), (5, 7, 11) and (0, 0, −4) with the weights 1, 1 and 2
pub weighted : point_numbers (triangle (point (pos 1) (pos 2) (pos 3)) (point (pos 5) (pos 7) (pos 11)) (point (pos 0) (pos 0) (neg_ℤ (pos 4)))) (record { w0 = pos 1; w1 = pos 1; w2 = pos 2 })
    ≡ (pos 1500 ∷ pos 2250 ∷ pos 1500 ∷ [])
weighted = refl
