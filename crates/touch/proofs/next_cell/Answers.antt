-- `touch::next_cell`: the row's cells follow each other in the map.
use mathlib.Core.Path.{◌≡◌, ap, ◌∙◌}
use Prim.Native.Nat.{◌+◌, ◌-◌}
use native.Mathlib.Omega.{arith}
use Rattle.map.specs.Map.{is_filled}
use Rattle.touch.proofs.next_cell.Goals as goal

pub returns : goal.returns
returns c =
    let row = c.args.row in
    let n = c.next_filled.result in
    let h = c.next_filled.ensures in
    let there : row + (n - row) ≡ n = omega (arith, h.from) in
    record {
      from = omega (arith, h.from);
      to = omega (arith, h.to);
      skipped = λ i u v. h.skipped (row + i) (omega (arith, u)) (omega (arith, v));
      stopped = λ u. ap (is_filled c.args.map.now) there ∙ h.stopped (omega (arith, u, h.from));
    }
