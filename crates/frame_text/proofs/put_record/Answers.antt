-- `frame_text::put_record`: the numbers, and the kind behind them. Assumes nothing.
use Rattle.std.proofs.Common.{◌≤◌, arith, length}
use Rattle.text.proofs.Texts.{puts-more}
use Rattle.frame_text.proofs.put_record.Goals as goal

pub returns : goal.returns
returns c =
    let room : c.args.at ≤ length c.args.out.now = omega arith in
    (rw (← c.record_numbers-numbers.ensures) (puts-more room c.put_numbers-behind.ensures.0 c.put_kind.ensures.0), omega (arith, c.put_numbers-behind.ensures.1, c.put_kind.ensures.1))
