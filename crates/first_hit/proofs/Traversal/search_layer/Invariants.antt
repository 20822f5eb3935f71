-- `first_hit::Traversal::search_layer`: what is kept is the first of the cells before the loop's row.
use Rattle.first_hit.specs.Inner.{FirstBefore}
use Rattle.first_hit.proofs.Traversal.search_layer.Given as goal

abbrev pub invariant-loop-j : goal.invariant-loop-j
invariant-loop-j l = FirstBefore l.self l.j l.k l.best
