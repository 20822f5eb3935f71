-- `columns::Columns::scan`: the rows passed are drawn.
use mathlib.Core.Bool.{and-eq-true_iff}
use native.Mathlib.Omega.{arith}
use Rattle.grid.specs.Range.{in_range}
use Rattle.columns.specs.Draw.{rectangle, range}
use Rattle.columns.proofs.Cells.{no-range, no-columns, more-columns, rectangle-more}
use Rattle.columns.proofs.ready.Columns.scan.Goals as goal

pub loop-j-init : goal.loop-j-init
loop-j-init c =
    let a = c.args in
    let (p, _, _) = c.requires in
    let f = a.v.first in
    no-columns a.self.now (rectangle a.u (range f f)) a.map.now a.hint (λ x y e. no-range f y ((and-eq-true_iff (in_range a.u x) (in_range (range f f) y)).0 e).1) p.low p.high

pub loop-j-preserved : goal.loop-j-preserved
loop-j-preserved c = let a = c.args in more-columns a.self.now (rectangle-more (omega arith) a.u) c.loop-j.invariant c.scan_row-near.ensures
