-- `weights::weigh`: some candidate from number m on fits; so the search ends at one that does.
use Rattle.candidates.proofs.Found.{Some}
use Rattle.weights.proofs.weigh.Given as goal

abbrev pub invariant-loop-m : goal.invariant-loop-m
invariant-loop-m l = Some l.rows l.m
