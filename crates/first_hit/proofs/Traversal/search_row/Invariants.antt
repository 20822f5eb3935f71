-- `first_hit::Traversal::search_row`: what is kept is the first of the cells before the loop's.
use mathlib.Core.Bool.{true}
use mathlib.Core.Path.{◌≡◌}
use Prim.Native.Nat.{◌+◌, ◌-◌, ◌<◌, ◌≤◌}
use Rattle.map.specs.Map.{is_filled}
use Rattle.first_hit.specs.Inner.{sought, entered, FirstBelow}
use Rattle.first_hit.proofs.Traversal.search_row.Given as goal

abbrev pub invariant-loop-i : goal.invariant-loop-i
invariant-loop-i l =
    (l.cells.first ≤ l.i) × (l.i ≤ l.cells.end) × (l.i < l.cells.end → is_filled l.self.map.now (l.row + l.i) ≡ true)
    × FirstBelow (sought l.self) (entered l.self) (l.row + l.i) l.best

abbrev pub decreases-loop-i : goal.decreases-loop-i
decreases-loop-i l = l.cells.end - l.i
