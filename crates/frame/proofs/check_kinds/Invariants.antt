-- `frame::check_kinds`: every record before the loop's has passed.
use Rattle.std.proofs.Common.{◌≡◌}
use Rattle.refusal.specs.Questions.{of_each}
use Rattle.refusal.specs.Inner.{passed, asked}
use Rattle.frame.specs.Questions.{kind_question}
use Rattle.frame.proofs.check_kinds.Given as goal

abbrev pub invariant-loop-i : goal.invariant-loop-i
invariant-loop-i l = asked (of_each (kind_question l.layout l.file) l.i) ≡ passed
