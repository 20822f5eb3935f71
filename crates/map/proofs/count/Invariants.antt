-- `map::count`: the whole bytes, then the cells behind them.
use Rattle.std.proofs.Common.{◌≡◌, ◌≤◌}
use Rattle.map.specs.Map.{is_filled, count_below}
use Rattle.map.proofs.count.Given as goal

abbrev pub invariant-loop-n : goal.invariant-loop-n
invariant-loop-n l = (l.sum ≤ l.n) × (l.sum ≡ count_below (is_filled l.map) l.n)
