-- `route::Route::check_points`: a point is asked whether it lies in the grid.
use Rattle.std.proofs.Common.{◌≡◌, ℕ, sym, ap, ◌∙◌, arith}
use Rattle.refusal.specs.Questions.{of_each}
use Rattle.refusal.specs.Inner.{asked}
use Rattle.refusal.proofs.Asking.{each_none, each_more, each-no}
use Rattle.grid.specs.Grid.{inside}
use Rattle.demand.specs.Route.{points_of, point_question}
use Rattle.route.proofs.Route.check_points.Goals as goal

pub loop-i-init : goal.loop-i-init
loop-i-init c = let r = c.args.self.now in each_none (point_question r.g (points_of r.numbers.now))

pub returns-then-not-is_inside : goal.returns-then-not-is_inside
returns-then-not-is_inside c =
    let r = c.args.self.now in
    let said = c.is_inside.ensures ∙ ap (inside r.g) c.point.ensures in
    sym (each-no (point_question r.g (points_of r.numbers.now)) c.loop-i.i c.args.count c.loop-i-test.true c.loop-i.invariant (sym said ∙ c.if-not-is_inside.true))

pub loop-i-preserved : goal.loop-i-preserved
loop-i-preserved c =
    let r = c.args.self.now in
    let said = c.is_inside.ensures ∙ ap (inside r.g) c.point.ensures in
    each_more (point_question r.g (points_of r.numbers.now)) c.loop-i.i c.loop-i.invariant (sym said ∙ c.if-not-is_inside.false)

pub returns : goal.returns
returns c =
    let r = c.args.self.now in
    let e : c.loop-i.i ≡ c.args.count = omega arith in
    sym c.loop-i.invariant ∙ ap (λ (n : ℕ). asked (of_each (point_question r.g (points_of r.numbers.now)) n)) e
