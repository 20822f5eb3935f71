-- `scan::put_corners`: corner by corner, each behind the one before.
use Rattle.frame_write.proofs.Pieces.{Filling}
use Rattle.scan.specs.Inner.{corner_numbers}
use Rattle.scan.proofs.put_corners.Given as goal

abbrev pub invariant-loop-j : goal.invariant-loop-j
invariant-loop-j l = Filling (corner_numbers l.ply.file.now l.ply.form l.at) 3 1 3 l.initial.numbers l.numbers l.j
