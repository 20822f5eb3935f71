-- `bits::whole_word`: four bytes are a field of 32 bits.
use Rattle.std.proofs.Common.{arith}
use Rattle.bits.proofs.Fields.{word-field}
use Rattle.bits.proofs.whole_word.Goals as goal

pub returns : goal.returns
returns c = omega (arith, word-field c.args.s.now (λ j. omega (arith, c.type_inv.s j)) c.args.i)
