-- `bar_line::put_bar`: a number has at most 20 digits. Assumes nothing.
use Rattle.std.proofs.Common.{◌≤◌, arith, length, rules}
use Rattle.text.proofs.Decimals.{decimal-most}
use Rattle.text.proofs.Texts.{puts-more}
use Rattle.bar_line.proofs.put_bar.Goals as goal

pub put_number-behind-requires : goal.put_number-behind-requires
put_number-behind-requires c = omega (arith, decimal-most c.args.i (search rules))

pub put_byte-requires : goal.put_byte-requires
put_byte-requires c = omega (arith, decimal-most c.args.i (search rules))

pub returns : goal.returns
returns c =
    let room : 0 ≤ length c.args.out.now = omega arith in
    puts-more room (puts-more room c.put_word-number.ensures c.put_number-behind.ensures) c.put_byte.ensures
