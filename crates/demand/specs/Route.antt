-- Routes: their points and legs, the questions put to a route test, and what it answers. Definitions only.
use Rattle.std.specs.Prelude.{Bool, ◌&&◌, List, ◌∷◌, ◌++◌, ℕ, zero, suc, ◌+◌, ◌-◌, ◌*◌, ◌/◌, ◌%◌, leb, eqb, ℤ, pos, length, get_or, Option, Some, None}
use Rattle.geometry.specs.declared.Point.{Point}
use Rattle.geometry.specs.Geometry.{point}
use Rattle.refusal.specs.Limit.{Answer}
use Rattle.refusal.specs.Questions.{Question, ◌asks◌, asks_of, answered, of_each}
use Rattle.grid.specs.declared.Grid.{Grid}
use Rattle.grid.specs.Grid.{inside}
use Rattle.map.specs.Map.{is_filled, tabulate}
use Rattle.layout.specs.Values.{point_from}
use Rattle.fill.specs.Fill.{grid_of, fill_questions}
use Rattle.first_hit.specs.FirstHit.{first_hit}
use Rattle.demand.specs.declared.Finding.{Finding}
use Rattle.demand.specs.declared.Finding.TheVariants.{Free, Blocked}

-- ---- a route (polyline): a list of points, each three numbers, x, y and z in turn
abbrev pub point_count : List ℤ → ℕ
point_count ns = length ns / 3

-- Point m stands from number 3 × m on.
unfoldable pub points_of : List ℤ → List Point
points_of ns = tabulate (λ m. point_from ns (3 * m)) (point_count ns)

-- Leg (segment) m joins point m to point m + 1, counted from 0.
abbrev pub point_at : List Point → ℕ → Point
point_at ps m = get_or ps m (point (pos 0) (pos 0) (pos 0))

abbrev pub leg_count : List Point → ℕ
leg_count ps = length ps - 1

-- ---- what is found
-- Of n legs, the first that is blocked, and its cell: the one found before, and else the last where it has one.
unfoldable pub first_blocked : (ℕ → Option ℕ) → ℕ → Finding
first_blocked cell zero = Free
first_blocked cell (suc m) = elim (first_blocked cell m) [ Blocked i n ↦ Blocked i n | Free ↦ elim (cell m) [ Some n ↦ Blocked m n | None ↦ Free ] ]

-- A route is free when no leg touches a filled cell. Otherwise it is blocked by the first such leg, at the filled cell that this leg reaches first.
unfoldable pub tested : (filled : ℕ → Bool) → Grid → List Point → Finding
tested filled g ps = first_blocked (λ m. first_hit filled g (point_at ps m) (point_at ps (m + 1))) (leg_count ps)

-- ---- the questions
-- 9. Are there 2 to 64 points, with no number left over?
abbrev pub count_fits : List ℤ → Bool
count_fits ns = leb 2 (point_count ns) && (leb (point_count ns) 64 && eqb (length ns % 3) 0)

-- 10. Is every point in the grid's closed box?
abbrev pub point_question : Grid → List Point → ℕ → Question
point_question g ps m = asks_of 10 m (inside g (point_at ps m))

-- Questions 9 and 10, in turn, of the numbers: the points come last, the lowest first.
abbrev pub point_questions : Grid → List ℤ → List Question
point_questions g ns = (9 asks count_fits ns) ∷ of_each (point_question g (points_of ns)) (length (points_of ns))

-- Questions 1 to 10, in turn, of a file s, a map of len bytes and numbers.
abbrev pub route_questions : List ℕ → ℕ → List ℤ → List Question
route_questions s len ns = fill_questions s len ++ point_questions (grid_of s) ns

-- A route test gives its finding. Cells are read from the map as it is.
unfoldable pub route_answer : (file map : List ℕ) (numbers : List ℤ) → Answer Finding
route_answer s m ns = answered (route_questions s (length m) ns) (tested (is_filled m) (grid_of s) (points_of ns))
