-- `frame::record` meets its contract.
use Rattle.frame.proofs.record.Goals as goal

pub from_record-part-requires : goal.from_record-part-requires
from_record-part-requires c = rw c.version_1-layout.ensures (c.requires.number, c.requires.start)
