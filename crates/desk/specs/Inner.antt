-- What a bar leaves in a lent list, by its room. Definitions only; no public promise cites them.
use Rattle.std.specs.Prelude.{cond, List, leb, ℤ, length}
use Rattle.weights.specs.declared.Weights.{Weights}
use Rattle.desk.specs.Bar.{with_weights}

abbrev pub bar_list : Weights → List ℤ → List ℤ
bar_list w zs = cond (leb 3 (length zs)) (with_weights w zs) zs
