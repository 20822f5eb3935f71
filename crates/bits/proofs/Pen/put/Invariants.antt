-- `bits::Pen::put`: byte after byte goes out, and all bits so far stay one number.
use Rattle.std.proofs.Common.{◌+◌, ◌*◌, ◌^◌}
use Rattle.bits.specs.Inner.{pen_bits, pen_number}
use Rattle.bits.proofs.Pens.{Turn}
use Rattle.bits.proofs.Pen.put.Given as goal

abbrev pub invariant-loop-bits : goal.invariant-loop-bits
invariant-loop-bits l =
    Turn (pen_number l.fn.out l.fn.self * 2 ^ l.width + l.value) (pen_bits l.fn.self + l.width) l.fn.out l.out l.at l.bits l.held

abbrev pub decreases-loop-bits : goal.decreases-loop-bits
decreases-loop-bits l = l.bits
