-- `runs::raised`: x is the form at k, and the cells passed fail.
use Rattle.std.proofs.Common.{arith}
use Rattle.runs.proofs.Runs.{given, start-asks, start_is}
use Rattle.runs.proofs.raised.Goals as goal

pub overflow_add-x : goal.overflow_add-x
overflow_add-x c =
    let g = given c.requires.0 c.ranges.step c.ranges.at in
    (start-asks g (omega (arith, c.requires.0))).2

pub loop-k-init : goal.loop-k-init
loop-k-init c =
    let g = given c.requires.0 c.ranges.step c.ranges.at in
    (omega arith, c.requires.0.ordered, start_is g (omega (arith, c.requires.0)), λ l h k. absurd (omega arith))
