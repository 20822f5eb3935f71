-- `runs::lowered`: x is the form at k, and the cells passed fail.
use Rattle.std.proofs.Common.{◌≡◌, ℕ, ◌-◌, ◌≤◌, ◌<◌}
use Rattle.runs.specs.Run.{form_at, FormFails}
use Rattle.runs.proofs.lowered.Given as goal

abbrev pub invariant-loop-k : goal.invariant-loop-k
invariant-loop-k l =
    (l.first ≤ l.k) × (l.k ≤ l.end) × (l.x ≡ form_at l.step l.at l.k) × ((i : ℕ) → l.k ≤ i → i < l.end → FormFails l.step l.at i)

abbrev pub decreases-loop-k : goal.decreases-loop-k
decreases-loop-k l = l.k - l.first
