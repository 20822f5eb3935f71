-- The word of bytes that may end before it: four bytes are a field of 32 bits, where those past the end are 0.
use Rattle.std.proofs.Common.{arith}
use Rattle.bits.proofs.Fields.{word-field}
use Rattle.bits.proofs.RefSliceU8Source.word.Goals as goal

pub returns : goal.returns
returns c = omega (arith, word-field c.args.self.now (λ j. omega (arith, c.type_inv.self j)) c.args.i)
