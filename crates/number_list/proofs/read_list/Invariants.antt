-- `number_list::read_list`: what is left of the text says what the whole text says. Assumes nothing.
use Rattle.std.proofs.Common.{false, [], ◌≡◌, ◌+◌, ◌≤◌, length}
use Rattle.number_list.specs.Numbers.{reading}
use Rattle.number_list.proofs.Turns.{Left}
use Rattle.number_list.proofs.read_list.Given as goal

abbrev pub invariant-loop-c : goal.invariant-loop-c
invariant-loop-c l =
    (l.line + length l.rest ≤ 1 + length l.text) × (l.count + length l.rest ≤ length l.text) × (length l.out ≡ length l.initial.out)
    × Left l.text l.initial.out (reading false l.line [] l.rest) l.count l.out

abbrev pub decreases-loop-c : goal.decreases-loop-c
decreases-loop-c l = length l.rest
