-- `columns::fill_run`: the cells passed are drawn.
use mathlib.Core.Path.{◌≡◌}
use lib.ListN.{length}
use Rattle.columns.specs.Draw.{Draws, one_column, in_run, range}
use Rattle.columns.proofs.fill_run.Given as goal

abbrev pub invariant-loop-k : goal.invariant-loop-k
invariant-loop-k l =
    (length l.map ≡ length l.initial.map)
    × Draws l.g (one_column l.i l.j) (in_run (range l.initial.k l.k)) l.initial.map l.map
