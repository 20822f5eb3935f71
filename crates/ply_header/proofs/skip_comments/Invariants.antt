-- `ply_header::skip_comments`: each turn is a comment.
use Rattle.std.proofs.Common.{◌-◌, length}
use Rattle.ply_header.proofs.Comments.{Skipping}
use Rattle.ply_header.proofs.skip_comments.Given as goal

abbrev pub invariant-loop-j : goal.invariant-loop-j
invariant-loop-j l = Skipping l.s l.at l.i

abbrev pub decreases-loop-j : goal.decreases-loop-j
decreases-loop-j l = length l.s - l.i
