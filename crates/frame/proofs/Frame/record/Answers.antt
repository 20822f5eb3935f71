-- `Frame::record` meets its contract: an accepted file has its records.
use Rattle.frame.proofs.Accepted.{held}
use Rattle.frame.proofs.Frame.record.Goals as goal

pub record-requires : goal.record-requires
record-requires c = held _ c.args.self.now.accepted c.requires
