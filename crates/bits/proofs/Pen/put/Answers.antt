-- `bits::Pen::put`: byte after byte goes out, and all bits so far stay one number.
use Rattle.std.proofs.Common.{arith}
use Rattle.bits.proofs.Pens.{begins, byte-lt, turns}
use Rattle.bits.proofs.Pen.put.Goals as goal

pub loop-bits-init : goal.loop-bits-init
loop-bits-init c = begins c.requires.0 c.requires.1

pub overflow_cast-out : goal.overflow_cast-out
overflow_cast-out c = omega (arith, byte-lt c.loop-bits.invariant c.loop-bits-test.true)

pub loop-bits-preserved : goal.loop-bits-preserved
loop-bits-preserved c = turns c.loop-bits.invariant c.loop-bits-test.true
