-- `ply::faces_fit`: each turn is one face.
use Rattle.ply.proofs.Places.{Walking}
use Rattle.ply.proofs.faces_fit.Given as goal

abbrev pub invariant-loop : goal.invariant-loop
invariant-loop l = Walking l.s l.at l.faces l.p l.counter
