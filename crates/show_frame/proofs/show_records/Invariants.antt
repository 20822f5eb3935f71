-- `show_records` shows a record with each turn, behind those that the buffer has.
use Rattle.std.proofs.Common.{◌≡◌, ◌≤◌, length}
use Rattle.show_frame.proofs.show_records.Given as goal

abbrev pub invariant-loop-i : goal.invariant-loop-i
invariant-loop-i g l = (l.at ≤ length l.out) × (length l.out ≡ length l.initial.out)
