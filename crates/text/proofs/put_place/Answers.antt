-- `text::put_place`: each part goes behind the one before, and each number has at most two digits. Assumes nothing.
use Rattle.std.proofs.Common.{◌≤◌, arith, length}
use Rattle.text.proofs.Decimals.{decimal_short}
use Rattle.text.proofs.Texts.{puts-more}
use Rattle.text.proofs.put_place.Goals as goal

pub returns : goal.returns
returns c =
    let room : c.args.at ≤ length c.args.out.now = omega arith in (
      puts-more room (puts-more room (puts-more room (puts-more room (puts-more room c.put_number-behind_i.ensures c.put_byte-second.ensures) c.put_number-behind_j.ensures) c.put_byte-third.ensures) c.put_number-behind_k.ensures) c.put_byte.ensures,
      omega (arith, decimal_short c.args.i c.requires.0, decimal_short c.args.j c.requires.1, decimal_short c.args.k c.requires.2),
    )
