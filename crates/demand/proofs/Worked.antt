-- Worked examples, by computation on the definitions: the points and legs of a route, and questions 8 to 10 of one on frame g of document 01, in turn. Assumes nothing.
use mathlib.Core.Bool.{true, false}
use mathlib.Core.List.{List, [], ◌∷◌, ◌++◌}
use mathlib.Core.Path.{◌≡◌, refl}
use Prim.Native.Nat.{ℕ}
use lib.IntN.{ℤ, pos}
use lib.ListN.{replicate}
use Rattle.bits.specs.Field.{bit_at, field_at, signed_at}
use Rattle.geometry.specs.Geometry.{point}
use Rattle.refusal.specs.Limit.{refused}
use Rattle.refusal.specs.Questions.{answered, of_each}
use Rattle.grid.specs.Grid.{inside}
use Rattle.map.specs.Map.{tabulate}
use Rattle.layout.specs.Values.{header_in, reserved_in, kind_in}
use Rattle.demand.specs.Route.{points_of, leg_count, count_fits, route_answer}

-- ---- points and legs
pub three-points : points_of (pos 1 ∷ pos 2 ∷ pos 3 ∷ pos 4 ∷ pos 5 ∷ pos 6 ∷ pos 7 ∷ pos 8 ∷ pos 9 ∷ [])
    ≡ (point (pos 1) (pos 2) (pos 3) ∷ point (pos 4) (pos 5) (pos 6) ∷ point (pos 7) (pos 8) (pos 9) ∷ [])
unfolding points_of tabulate
three-points = refl

pub two-legs : leg_count (replicate 3 (point (pos 0) (pos 0) (pos 0))) ≡ 2
two-legs = refl

-- 1, 2, 64 and 65 points; a number left over
pub counts : (count_fits (replicate 3 (pos 0)) ∷ count_fits (replicate 6 (pos 0)) ∷ count_fits (replicate 192 (pos 0)) ∷ count_fits (replicate 195 (pos 0)) ∷ count_fits (replicate 7 (pos 0)) ∷ [])
    ≡ (false ∷ true ∷ true ∷ false ∷ false ∷ [])
counts = refl

-- ---- the questions
abbrev g : List ℕ
g = 0x10 ∷ 0x41 ∷ 0x04 ∷ 0x28 ∷ 0x00 ∷ 0x00 ∷ 0x00 ∷ 0x00 ∷ 0x00 ∷ 0x00 ∷ 0x10 ∷ 0x00 ∷ 0x00 ∷ 0x01 ∷ 0x00 ∷ 0x50 ∷ 0x00 ∷ 0x50 ∷ 0x05 ∷ 0x00 ∷ 0x14 ∷ 0x00 ∷ 0x14 ∷ 0x01 ∷ 0x40 ∷ 0x00 ∷ 0x40 ∷ 0x05 ∷ []

-- points 1 and 2 are outside, on the far side; the number left over and the short map are broken first
abbrev outside : List ℤ
outside = pos 20 ∷ pos 20 ∷ pos 20 ∷ pos 21 ∷ pos 20 ∷ pos 20 ∷ pos 20 ∷ pos 20 ∷ pos 21 ∷ []

pub short-map : route_answer g [] (outside ++ (pos 0 ∷ [])) ≡ refused 8 0
unfolding bit_at field_at signed_at header_in reserved_in kind_in answered of_each route_answer
short-map = refl

pub left_over : route_answer g (0x70 ∷ []) (outside ++ (pos 0 ∷ [])) ≡ refused 9 0
unfolding bit_at field_at signed_at header_in reserved_in kind_in answered of_each route_answer
left_over = refl

pub lowest-point : route_answer g (0x70 ∷ []) outside ≡ refused 10 1
unfolding bit_at field_at signed_at header_in reserved_in kind_in answered of_each tabulate inside points_of route_answer
lowest-point = refl
