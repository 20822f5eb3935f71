-- `route::Route::test_legs`: a leg's points lie in the grid, so that it may be searched; the first leg with a cell is named.
use Rattle.std.proofs.Common.{◌≡◌, ℕ, ◌+◌, ◌-◌, List, ℤ, sym, ap, ap₂, ◌∙◌, arith}
use lib.Dec.{lit≤}
use Rattle.map.specs.Map.{is_filled}
use Rattle.first_hit.specs.FirstHit.{first_hit}
use Rattle.grid.proofs.Usable.{usable-weaken}
use Rattle.demand.specs.Route.{point_count, points_of, leg_count, first_blocked, tested}
use Rattle.demand.proofs.First.{legs-none, legs-more, legs-blocked}
use Rattle.demand.proofs.Points.{points-length, point-bounded}
use Rattle.route.proofs.Route.test_legs.Invariants.{on_leg}
use Rattle.route.proofs.Route.test_legs.Goals as goal

-- the number of legs
legs : (numbers : List ℤ) → leg_count (points_of numbers) ≡ point_count numbers - 1
legs numbers = ap (λ (n : ℕ). n - 1) (points-length numbers)

pub loop-m-init : goal.loop-m-init
loop-m-init c = let r = c.args.self.now in legs-none (on_leg c.args.map.now r.g r.numbers.now)

pub first_hit-requires : goal.first_hit-requires
first_hit-requires c =
    let r = c.args.self.now in
    let p = c.requires in
    let m = c.loop-m.m in
    let t = c.loop-m-test.true in (
      usable-weaken (lit≤ tt) (lit≤ tt) r.usable,
      p.0,
      rw c.point.ensures (point-bounded r.usable.within (p.1.inside m (omega arith))),
      rw c.point-in-loop-m.ensures (point-bounded r.usable.within (p.1.inside (m + 1) (omega arith))),
    )

pub returns-in-Some : goal.returns-in-Some
unfolding tested
returns-in-Some c =
    let r = c.args.self.now in
    let found = c.in-Some.ensures ∙ ap₂ (first_hit (is_filled c.args.map.now) r.g) c.point.ensures c.point-in-loop-m.ensures in
    let t = c.loop-m-test.true in
    sym (legs-blocked (on_leg c.args.map.now r.g r.numbers.now) c.loop-m.m _ _ (omega (arith, legs r.numbers.now)) c.loop-m.invariant (sym found))

pub loop-m-preserved : goal.loop-m-preserved
loop-m-preserved c =
    let r = c.args.self.now in
    let found = c.in_default.ensures ∙ ap₂ (first_hit (is_filled c.args.map.now) r.g) c.point.ensures c.point-in-loop-m.ensures in
    legs-more (on_leg c.args.map.now r.g r.numbers.now) c.loop-m.m c.loop-m.invariant (sym found)

pub returns : goal.returns
unfolding tested
returns c =
    let r = c.args.self.now in
    let all : c.loop-m.m ≡ leg_count (points_of r.numbers.now) = omega (arith, legs r.numbers.now) in
    sym c.loop-m.invariant ∙ ap (first_blocked (on_leg c.args.map.now r.g r.numbers.now)) all
