-- `route::Route::test_legs`: the legs before the loop's touch no filled cell.
use Rattle.std.proofs.Common.{◌≡◌, ℕ, ◌+◌, List, ℤ, Option}
use Rattle.map.specs.Map.{is_filled}
use Rattle.demand.specs.declared.Finding.TheVariants.{Free}
use Rattle.first_hit.specs.FirstHit.{first_hit}
use Rattle.grid.specs.declared.Grid.{Grid}
use Rattle.demand.specs.Route.{points_of, point_at, first_blocked}
use Rattle.route.proofs.Route.test_legs.Given as goal

-- the cell that is found on leg m
abbrev pub on_leg : List ℕ → Grid → List ℤ → ℕ → Option ℕ
on_leg map g numbers m = let ps = points_of numbers in first_hit (is_filled map) g (point_at ps m) (point_at ps (m + 1))

abbrev pub invariant-loop-m : goal.invariant-loop-m
invariant-loop-m l = first_blocked (on_leg l.map l.self.g l.self.numbers.now) l.m ≡ Free
