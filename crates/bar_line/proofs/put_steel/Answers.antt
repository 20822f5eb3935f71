-- `bar_line::put_steel`: a number has at most 20 digits. Assumes nothing.
use Rattle.std.proofs.Common.{◌≤◌, arith, length, rules}
use Rattle.text.proofs.Decimals.{decimal-most}
use Rattle.text.proofs.Texts.{puts-more}
use Rattle.bar_line.proofs.put_steel.Goals as goal

pub put_number-behind-requires : goal.put_number-behind-requires
put_number-behind-requires c = omega (arith, decimal-most c.args.i (search rules))

pub put_byte-record-requires : goal.put_byte-record-requires
put_byte-record-requires c = omega (arith, decimal-most c.args.i (search rules))

pub put_record-requires : goal.put_record-requires
put_record-requires c =
    (c.requires.0, omega (arith, decimal-most c.args.i (search rules), c.put_word-number.ensures.next, c.put_number-behind.ensures.next, c.put_byte-record.ensures.next))

pub returns : goal.returns
returns c =
    let room : c.args.at ≤ length c.args.out.now = omega arith in (
      puts-more room (puts-more room (puts-more room c.put_word-number.ensures c.put_number-behind.ensures) c.put_byte-record.ensures) c.put_record.ensures.0,
      omega (arith, decimal-most c.args.i (search rules), c.put_word-number.ensures.next, c.put_number-behind.ensures.next, c.put_byte-record.ensures.next, c.put_record.ensures.1),
    )
