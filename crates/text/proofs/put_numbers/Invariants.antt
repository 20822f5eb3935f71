-- `text::put_numbers`: the numbers that were passed stand there. Assumes nothing.
use Rattle.std.proofs.Common.{◌≡◌, ◌+◌, ◌*◌, ◌≤◌, length, take}
use Rattle.text.specs.Text.{spaced}
use Rattle.text.specs.Inner.{Puts}
use Rattle.text.proofs.put_numbers.Given as goal

abbrev pub invariant-loop-number : goal.invariant-loop-number
invariant-loop-number l = (length l.out ≡ length l.initial.out) × (l.end ≤ l.at + 12 * l.number-index) × Puts l.initial.out l.at (spaced (take l.number-index l.numbers)) l.out l.end
