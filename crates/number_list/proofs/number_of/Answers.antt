-- `number_list::number_of`: the number is passed on where 32 bits hold it. Assumes nothing.
use Rattle.number_list.specs.Numbers.{number_of}
use Rattle.number_list.proofs.Held.{held-said}
use Rattle.number_list.proofs.number_of.Goals as goal

pub returns : goal.returns
unfolding number_of
returns c = held-said _ _ c.number_as.ensures.none c.number_as.ensures.some
