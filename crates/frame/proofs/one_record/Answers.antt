-- `frame::one_record` meets its contract.
use Rattle.frame.proofs.one_record.Goals as goal

pub from_record-own-requires : goal.from_record-own-requires
from_record-own-requires c = rw c.version_1-layout.ensures (c.requires.number, c.requires.start)
