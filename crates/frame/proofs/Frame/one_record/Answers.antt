-- `Frame::one_record` meets its contract: an accepted file has its records.
use Rattle.frame.proofs.Accepted.{held}
use Rattle.frame.proofs.Frame.one_record.Goals as goal

pub one_record-requires : goal.one_record-requires
one_record-requires c = held _ c.args.self.now.accepted c.requires
