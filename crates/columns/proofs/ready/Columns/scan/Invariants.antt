-- `columns::Columns::scan`: the rows passed are drawn.
use Rattle.columns.specs.Draw.{rectangle, range}
use Rattle.columns.specs.Column.{DrawsColumns}
use Rattle.columns.proofs.ready.Columns.scan.Given as goal

abbrev pub invariant-loop-j : goal.invariant-loop-j
invariant-loop-j l = DrawsColumns l.self (rectangle l.u (range l.initial.j l.j)) l.initial.map l.map l.near
