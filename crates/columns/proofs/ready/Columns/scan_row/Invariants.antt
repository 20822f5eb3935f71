-- `columns::Columns::scan_row`: the columns passed are drawn, and x0, x1 and x2 are the edges' values of the next.
use mathlib.Core.Path.{◌≡◌}
use Rattle.columns.specs.Draw.{row_of, range}
use Rattle.columns.specs.Column.{value_at, DrawsColumns}
use Rattle.columns.proofs.ready.Columns.scan_row.Given as goal

abbrev pub invariant-loop-a : goal.invariant-loop-a
invariant-loop-a l =
    let f = l.self.forms.now in
    DrawsColumns l.self (row_of (range l.initial.a l.a) l.j) l.initial.map l.map l.near × (l.x0 ≡ value_at f 0 l.a l.j) × (l.x1 ≡ value_at f 1 l.a l.j)
    × (l.x2 ≡ value_at f 2 l.a l.j)
