-- `route::Route::check_points`: every point before the loop's has passed.
use Rattle.std.proofs.Common.{◌≡◌}
use Rattle.refusal.specs.Questions.{of_each}
use Rattle.refusal.specs.Inner.{passed, asked}
use Rattle.demand.specs.Route.{points_of, point_question}
use Rattle.route.proofs.Route.check_points.Given as goal

abbrev pub invariant-loop-i : goal.invariant-loop-i
invariant-loop-i l = asked (of_each (point_question l.self.g (points_of l.self.numbers.now)) l.i) ≡ passed
