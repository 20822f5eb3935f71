-- `points::test_first_points`: no more points can be taken than there are.
use Rattle.std.proofs.Common.{◌≡◌, ℕ, List, min, take, sym, ap, ◌∙◌, length}
use borrow.Author.Rules.{rules}
use Rattle.demand.proofs.Demand.{demand-of}
use Rattle.demand.specs.Route.{route_answer}
use Rattle.points.specs.declared.Point.{Point}
use Rattle.points.specs.Points.{numbers_of}
use Rattle.points.proofs.Numbers.{take_min}
use Rattle.points.proofs.test_first_points.Goals as goal

pub returns : goal.returns
returns c =
    let a = c.args in
    let long : length a.points ≡ 128 = search rules in
    let same : take c.min-end.result a.points ≡ take a.count a.points =
    ap (λ (j : ℕ). take j a.points) (c.min-end.ensures ∙ ap (min a.count) (sym long)) ∙ take_min a.count a.points in
    demand-of a.file.now a.map.now (numbers_of (take a.count a.points))
    (c.test_points.ensures.0 ∙ ap (λ (ps : List Point). route_answer a.file.now a.map.now (numbers_of ps)) same)
