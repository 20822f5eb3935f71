-- `bar_line::put_lines`: one line behind the other. Assumes nothing.
use Rattle.std.proofs.Common.{◌≤◌, arith, length}
use Rattle.text.proofs.Texts.{puts-more}
use Rattle.bar_line.proofs.put_lines.Goals as goal

pub returns : goal.returns
returns c =
    let room : 0 ≤ length c.args.out.now = omega arith in
    puts-more room (puts-more room c.put_cell-steel.ensures.0 c.put_steel-point.ensures.0) c.put_point.ensures
