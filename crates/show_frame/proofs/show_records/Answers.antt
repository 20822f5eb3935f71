-- `show_records` shows records that an accepted file has, whose numbers are small, each where a line has room.
use Rattle.std.proofs.Common.{arith}
use Rattle.numbers.proofs.Readings.{record-small}
use Rattle.show_frame.proofs.show_records.Goals as goal

pub put_record-at-requires : goal.put_record-at-requires
put_record-at-requires g c = (rw c.«record».ensures (record-small c.args.frame.now.file.now c.loop-i.i), omega (arith, c.in_ok-place.ensures))
