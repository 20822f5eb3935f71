-- `layout::read_kind` meets its contract: the kind stands at bit 0.
use Rattle.layout.specs.Values.{kind_in}
use Rattle.layout.proofs.read.read_kind.Goals as goal

pub returns : goal.returns
unfolding kind_in
returns c = rw c.new.ensures at c.take-kind.ensures.value
