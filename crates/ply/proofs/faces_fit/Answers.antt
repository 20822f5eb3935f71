-- `ply::faces_fit`: each turn is one face.
use Rattle.std.proofs.Common.{refl, arith}
use Rattle.ply.specs.Body.{face_from}
use Rattle.ply.proofs.Places.{walk-cut, walk_more}
use Rattle.ply.proofs.faces_fit.Goals as goal

pub loop-init : goal.loop-init
unfolding face_from
loop-init c = record { low = omega arith; is = refl }

pub returns-then-s-p : goal.returns-then-s-p
returns-then-s-p c = walk-cut c.loop.invariant c.loop-test.true c.if-s-p.true

pub loop-preserved : goal.loop-preserved
loop-preserved c = walk_more c.loop.invariant c.loop-test.true (omega (arith, c.from.ensures))
