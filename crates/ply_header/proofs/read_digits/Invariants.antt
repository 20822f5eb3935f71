-- `ply_header::read_digits`: each turn is one step of `count_from`.
use Rattle.ply_header.proofs.Counts.{Counting}
use Rattle.ply_header.proofs.read_digits.Given as goal

abbrev pub invariant-loop-i : goal.invariant-loop-i
invariant-loop-i l = Counting l.s l.at l.v l.i
