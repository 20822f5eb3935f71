-- `points::test_points`: the numbers of all points are copied, or those of 65, which meet question 9 as any more would.
use Rattle.std.proofs.Common.{◌≡◌, ℕ, ◌+◌, ◌*◌, length, take, set, slice_index_or, to_z, of_z, pos, length-set, sym, ap, ◌∙◌, arith, rules}
use mir.Syntax.{w16}
use native.Mathlib.Numerals.{add-one}
use Rattle.demand.proofs.Demand.{demand-of}
use Rattle.demand.specs.Route.{route_answer}
use Rattle.points.specs.declared.Point.{Point}
use Rattle.points.specs.Points.{numbers_of}
use Rattle.points.proofs.Numbers.{with_point, one_more}
use Rattle.points.proofs.TooMany.{copied-answer}
use Rattle.points.proofs.test_points.Goals as goal

pub loop-i-preserved : goal.loop-i-preserved
loop-i-preserved c =
    let i = c.loop-i.i in
    let v = c.loop-i.invariant in
    let below = c.loop-i-test.true in
    let few = c.min-count.ensures in
    let ns = c.loop-i.numbers in
    let d : Point = record { x = pos 0; y = pos 0; z = pos 0 } in
    let p : Point = slice_index_or c.args.points.now i d in
    let x : to_z w16 (of_z w16 p.x) ≡ p.x = search rules in
    let y : to_z w16 (of_z w16 p.y) ≡ p.y = search rules in
    let z : to_z w16 (of_z w16 p.z) ≡ p.z = search rules in
    let is : set (set (set ns (3 * i) (to_z w16 (of_z w16 p.x))) (3 * i + 1) (to_z w16 (of_z w16 p.y))) (3 * i + 2) (to_z w16 (of_z w16 p.z)) ≡ with_point ns i p =
    λ t. set (set (set ns (3 * i) (x t)) (3 * i + 1) (y t)) (3 * i + 2) (z t) in (
      ap length is ∙ simp length-set v.0,
      rw (is, add-one i) (one_more c.args.points.now i d ns (omega (arith, few, below)) (omega (arith, few, below, v.0)) v.1),
    )

pub returns : goal.returns
returns c =
    let a = c.args in
    let ns = c.loop-i.numbers in
    let all : c.loop-i.i ≡ c.min-count.result = omega arith in
    let copied = ap (λ (j : ℕ). take (3 * j) ns) (sym all) ∙ c.loop-i.invariant.1 ∙ ap (λ (j : ℕ). numbers_of (take j a.points.now)) (all ∙ c.min-count.ensures) in
    demand-of a.file.now a.map.now (numbers_of a.points.now)
    (c.test_route.ensures.0 ∙ ap (route_answer a.file.now a.map.now) copied ∙ copied-answer a.file.now a.map.now a.points.now)
