-- `ply_header::line_end`: each turn is a character of a comment.
use Rattle.ply_header.proofs.Comments.{Inside}
use Rattle.ply_header.proofs.line_end.Given as goal

abbrev pub invariant-loop-i : goal.invariant-loop-i
invariant-loop-i l = Inside l.s l.at l.i
