-- `map::next_filled`: no cell before the loop's is filled.
use Rattle.std.proofs.Common.{◌≡◌, ℕ, ◌-◌, ◌≤◌, ◌<◌, false}
use Rattle.map.specs.Map.{is_filled}
use Rattle.map.proofs.next_filled.Given as goal

abbrev pub invariant-loop-n : goal.invariant-loop-n
invariant-loop-n l = (l.first ≤ l.n) × ((m : ℕ) → m < l.n → l.first ≤ m → is_filled l.map m ≡ false)

abbrev pub decreases-loop-n : goal.decreases-loop-n
decreases-loop-n l = l.end - l.n
