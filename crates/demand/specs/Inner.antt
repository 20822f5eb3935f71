-- Questions 8 to 10, and a route that passes them. Definitions only; no public promise cites them.
use Rattle.std.specs.Prelude.{true, List, ◌∷◌, ◌≡◌, ℕ, ◌<◌, ◌≤◌, ℤ}
use Rattle.refusal.specs.Questions.{Question}
use Rattle.grid.specs.declared.Grid.{Grid}
use Rattle.grid.specs.Grid.{inside}
use Rattle.fill.specs.Fill.{map_question}
use Rattle.demand.specs.Route.{point_count, points_of, point_at, point_questions}

-- A route that passes questions 9 and 10.
pub record ReadyRoute (g : Grid) (ns : List ℤ) : Type 0 where
  pub some : 2 ≤ point_count ns
  pub inside : (m : ℕ) → m < point_count ns → inside g (point_at (points_of ns) m) ≡ true

-- Questions 8 to 10, in turn.
abbrev pub last_questions : Grid → ℕ → List ℤ → List Question
last_questions g len ns = map_question g len ∷ point_questions g ns
