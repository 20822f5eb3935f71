-- The points of a route as structs. Definitions only.
use Rattle.std.specs.Prelude.{List, [], ◌∷◌, ℤ}
use Rattle.points.specs.declared.Point.{Point}

-- The numbers of the points in order: x, y and z of each.
abbrev pub numbers_of : List Point → List ℤ
numbers_of [] = []
numbers_of (p ∷ ps) = p.x ∷ p.y ∷ p.z ∷ numbers_of ps
