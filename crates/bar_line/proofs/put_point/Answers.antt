-- `bar_line::put_point`: a word, three numbers and a line feed. Assumes nothing.
use Rattle.std.proofs.Common.{◌≤◌, arith, length}
use Rattle.text.proofs.Texts.{puts-more}
use Rattle.bar_line.proofs.put_point.Goals as goal

pub returns : goal.returns
returns c =
    let room : c.args.at ≤ length c.args.out.now = omega arith in
    rw (← c.weighted_point-numbers.ensures) (puts-more room (puts-more room c.put_word-first.ensures c.put_numbers-behind.ensures.0) c.put_byte.ensures)
