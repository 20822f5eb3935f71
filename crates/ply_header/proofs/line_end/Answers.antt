-- `ply_header::line_end`: each turn is a character of a comment.
use Rattle.std.proofs.Common.{arith}
use Rattle.ply_header.proofs.Comments.{inside, fed, unfed}
use Rattle.ply_header.proofs.line_end.Goals as goal

pub returns-then-s-i-eq10-clause-same : goal.returns-then-s-i-eq10-clause-same
returns-then-s-i-eq10-clause-same c = fed c.loop-i.invariant c.loop-i-test.true c.if-s-i-eq10.true

pub loop-i-preserved : goal.loop-i-preserved
loop-i-preserved c = inside c.loop-i.invariant c.loop-i-test.true c.if-s-i-eq10.false

pub returns-clause-same : goal.returns-clause-same
returns-clause-same c = unfed c.loop-i.invariant (omega arith)
