-- `text::put_pair`: each part goes behind the one before. Assumes nothing.
use Rattle.std.proofs.Common.{◌≤◌, arith, length}
use Rattle.text.proofs.Texts.{puts-more}
use Rattle.text.proofs.put_pair.Goals as goal

pub returns : goal.returns
returns c =
    let room : 0 ≤ length c.args.out.now = omega arith in
    puts-more room (puts-more room (puts-more room (puts-more room c.put_word-first.ensures c.put_number-behind_a.ensures) c.put_word-next.ensures) c.put_number-behind_b.ensures) c.put_byte.ensures
