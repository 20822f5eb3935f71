-- `Frame::record_inside` meets its contract: an accepted file has its records.
use Rattle.frame.proofs.Accepted.{follows}
use Rattle.frame.proofs.Frame.record_inside.Goals as goal

pub record_inside-requires : goal.record_inside-requires
record_inside-requires c = follows _ c.args.self.now.accepted c.requires
