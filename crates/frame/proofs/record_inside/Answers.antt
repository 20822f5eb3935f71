-- `frame::record_inside` meets its contract: the record's 32 bytes are there.
use Rattle.std.proofs.Common.{ap, length, length-drop, arith}
use Rattle.layout.specs.Layout.{version1, record_start}
use Rattle.frame.proofs.record_inside.Goals as goal

pub from_record-bytes-requires : goal.from_record-bytes-requires
from_record-bytes-requires c = let p = c.requires in rw c.version_1-layout.ensures (p.number, omega (arith, p.room))

pub read_record-requires : goal.read_record-requires
read_record-requires c =
    let part = rw c.version_1-layout.ensures at c.from_record-bytes.ensures in
    omega (arith, ap length part, length-drop (record_start version1 c.args.i) c.args.file.now, c.requires.room)
