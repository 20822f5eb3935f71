-- `ply_header::read_word`: each turn is one step of `behind`.
use Rattle.ply_header.proofs.Texts.{Reading}
use Rattle.ply_header.proofs.read_word.Given as goal

abbrev pub invariant-loop-c : goal.invariant-loop-c
invariant-loop-c l = Reading l.s l.text l.at l.i l.c-index
