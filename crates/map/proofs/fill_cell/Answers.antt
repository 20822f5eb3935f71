-- `map::fill_cell`: the shift of 1 loses no bit.
use Rattle.std.proofs.Common.{◌-◌, ◌%◌, arith}
use Rattle.bits.proofs.Fields.{one_shl}
use Rattle.map.specs.Inner.{with_filled}
use Rattle.map.proofs.fill_cell.Goals as goal

pub returns : goal.returns
unfolding with_filled
returns c = rw (one_shl 8 (7 - c.args.n % 8) (omega arith))
