-- `touch::search`: no cell that is looked for lies before the loops' layer, row and cell.
use mathlib.Core.Bool.{true}
use mathlib.Core.Path.{◌≡◌}
use Rattle.std.specs.Prelude.{None}
use Prim.Native.Nat.{◌+◌, ◌-◌, ◌<◌, ◌≤◌}
use Rattle.map.specs.Map.{is_filled}
use Rattle.touch.proofs.Scan.{Layers, Rows, Cells}
use Rattle.touch.proofs.search.Given as goal

abbrev pub invariant-loop-i : goal.invariant-loop-i
invariant-loop-i l =
    (l.found ≡ None) × (l.x.first ≤ l.i) × (l.i < l.x.end → is_filled l.map (l.row + l.i) ≡ true)
    × Cells l.map l.g.nx l.g.ny l.slabs l.x l.y l.fn.block.z l.k l.j l.i

abbrev pub decreases-loop-i : goal.decreases-loop-i
decreases-loop-i l = l.x.end - l.i

abbrev pub invariant-loop-j : goal.invariant-loop-j
invariant-loop-j l = (l.found ≡ None) × Rows l.map l.g.nx l.g.ny l.slabs l.x l.y l.fn.block.z l.k l.j

abbrev pub invariant-scan : goal.invariant-scan
invariant-scan l = (l.found ≡ None) × Layers l.map l.g.nx l.g.ny l.slabs l.x l.y l.fn.block.z l.k × (l.y.first ≤ l.near) × (l.near ≤ l.y.end)
