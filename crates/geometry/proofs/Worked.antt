-- Worked examples, by computation on the definitions: a point's coordinates, differences and products of two vectors, a triangle's and a leg's corners. Assumes
-- nothing.
use mathlib.Core.List.{[], ◌∷◌}
use mathlib.Core.Path.{◌≡◌, refl}
use lib.IntN.{pos, neg_ℤ}
use Rattle.geometry.specs.declared.Point.{Point}
use Rattle.geometry.specs.Geometry.{point, minus, dot, cross, triangle, leg, x_of, y_of, z_of, cube}

abbrev a : Point
a = record { x = pos 1; y = pos 2; z = pos 3 }

abbrev b : Point
b = record { x = pos 5; y = pos 7; z = pos 11 }

pub in-turn : point (pos 1) (pos 2) (pos 3) ≡ a
in-turn = refl

pub on-axes : (x_of b ∷ y_of b ∷ z_of b ∷ []) ≡ (pos 5 ∷ pos 7 ∷ pos 11 ∷ [])
on-axes = refl

pub differs : minus b a ≡ record { x = pos 4; y = pos 5; z = pos 8 }
differs = refl

-- 1 × 5 + 2 × 7 + 3 × 11; and 2 × 11 − 3 × 7, 3 × 5 − 1 × 11, 1 × 7 − 2 × 5
pub dotted : dot a b ≡ pos 52
dotted = refl

pub crossed : cross a b ≡ record { x = pos 1; y = pos 4; z = neg_ℤ (pos 3) }
crossed = refl

pub corners : triangle a b (cube (pos 4)) ≡ record { v0 = a; v1 = b; v2 = record { x = pos 4; y = pos 4; z = pos 4 } }
corners = refl

pub leg-corners : leg a b ≡ record { v0 = a; v1 = b; v2 = b }
leg-corners = refl
