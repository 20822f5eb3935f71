-- `first_hit::Traversal::search`: what is kept is the first of the cells before the loop's layer.
use Prim.Native.Nat.{◌≤◌}
use Rattle.first_hit.specs.Inner.{FirstBefore}
use Rattle.first_hit.proofs.Traversal.search.Given as goal

abbrev pub invariant-loop-k : goal.invariant-loop-k
invariant-loop-k l = (l.y.first ≤ l.near) × (l.near ≤ l.y.end) × FirstBefore l.self 0 l.k l.best
