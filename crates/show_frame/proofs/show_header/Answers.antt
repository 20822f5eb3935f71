-- `show_header` shows the header of an accepted file, whose numbers are small.
use Rattle.std.proofs.Common.{arith}
use Rattle.frame.proofs.Accepted.{accepted}
use Rattle.numbers.proofs.Readings.{accepted-small}
use Rattle.show_frame.proofs.show_header.Goals as goal

pub put_grid-line-requires : goal.put_grid-line-requires
put_grid-line-requires g c =
    let frame = c.args.frame.now in
    (rw c.header.ensures (accepted-small (accepted frame.file.now frame.header frame.accepted)), omega arith)
