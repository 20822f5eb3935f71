-- `map::count_bytes`: the bytes before each loop's are counted.
use Rattle.std.proofs.Common.{◌≡◌, ℕ, List, ◌*◌, ◌≤◌}
use Rattle.map.specs.Map.{is_filled, count_below}
use Rattle.map.proofs.count_bytes.Given as goal

-- the filled cells of so many bytes are counted
abbrev pub Counted : List ℕ → (sum bytes : ℕ) → Type 0
Counted map sum bytes = (sum ≤ bytes * 8) × (sum ≡ count_below (is_filled map) (bytes * 8))

abbrev pub invariant-loop-i : goal.invariant-loop-i
invariant-loop-i l = Counted l.map l.sum (l.i * 8)

abbrev pub invariant-loop-k : goal.invariant-loop-k
invariant-loop-k l = Counted l.map l.sum l.k
