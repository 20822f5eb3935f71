-- `box_test::axis_meets`: the least and the greatest coordinate are tested in turn.
use Rattle.std.proofs.Common.{[], ◌∷◌, ap₂}
use lib.Signed.{le_z}
use mir.Facts.{to_z-of_z}
use Rattle.std.specs.Int.{int_min, int_max}
use Rattle.integers.proofs.Expr.{var, ◌⊕◌}
use Rattle.integers.proofs.Machine.{run}
use Rattle.placed.proofs.Three.{of-three}
use Rattle.box_test.specs.Inner.{axis_bounds}
use Rattle.box_test.proofs.Chain.{and_then, and_else}
use Rattle.box_test.proofs.axis_meets.Goals as goal

pub returns-then-min-low : goal.returns-then-min-low
returns-then-min-low c =
    let a = c.args in
    let r = c.ranges in
    let least-is = of-three int_min r.a0 r.a1 r.a2 c.min.type_inv c.min-2.type_inv c.min.ensures.value c.min-2.ensures.value in
    let greatest-is = of-three int_max r.a0 r.a1 r.a2 c.max.type_inv c.max-then-min-low.type_inv c.max.ensures.value c.max-then-min-low.ensures.value in
    let end-is = run (a.a0 ∷ a.a1 ∷ a.a2 ∷ a.low ∷ a.extent ∷ []) (var 3 ⊕ var 4) axis_bounds tt c.requires in
    and_then (ap₂ le_z least-is end-is) c.if-min-low.true (ap₂ le_z (to_z-of_z r.low) greatest-is)

pub returns-else-min-low : goal.returns-else-min-low
returns-else-min-low c =
    let a = c.args in
    let r = c.ranges in
    let least-is = of-three int_min r.a0 r.a1 r.a2 c.min.type_inv c.min-2.type_inv c.min.ensures.value c.min-2.ensures.value in
    let end-is = run (a.a0 ∷ a.a1 ∷ a.a2 ∷ a.low ∷ a.extent ∷ []) (var 3 ⊕ var 4) axis_bounds tt c.requires in
    and_else (le_z a.low (int_max (int_max a.a0 a.a1) a.a2)) (ap₂ le_z least-is end-is) c.if-min-low.false
