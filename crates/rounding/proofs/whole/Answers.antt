-- `rounding::whole`: between the ends of the range the sum is rounded by the addition itself.
use lib.Ieee.{of_bits}
use Rattle.rounding.proofs.Cases.{tested}
use Rattle.rounding.proofs.Casts.{sum-in, less-fits, whole-fits, result-is}
use Rattle.rounding.proofs.whole.Goals as goal

pub float_to_int-result : goal.float_to_int-result
unfolding of_bits
float_to_int-result c = let b = tested c.args.x c.requires in sum-in _ b.0 b.1

pub overflow_sub-result : goal.overflow_sub-result
unfolding of_bits
overflow_sub-result c = let b = tested c.args.x c.requires in less-fits _ b.0 b.1

pub overflow_cast-result : goal.overflow_cast-result
unfolding of_bits
overflow_cast-result c = let b = tested c.args.x c.requires in whole-fits _ b.0 b.1

pub returns : goal.returns
unfolding of_bits
returns c = let b = tested c.args.x c.requires in result-is _ b.0 b.1
