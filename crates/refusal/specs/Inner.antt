-- What questions alone say. Definitions only; no public promise cites them.
use Rattle.std.specs.Prelude.{List}
use Rattle.refusal.specs.Limit.{Answer, gives}
use Rattle.refusal.specs.Questions.{Question, answered}

-- What the questions alone say: passed, or the first "no".
abbrev pub Passing : Type 0
Passing = Answer (Unit {0})

abbrev pub passed : Passing
passed = gives tt

abbrev pub asked : List Question → Passing
asked qs = answered qs tt
