-- `ply_header::read_counted`: the text, then the count.
use Rattle.std.proofs.Common.{sym, ◌∙◌}
use Rattle.ply_header.specs.Text.{and_then, counted}
use Rattle.ply_header.specs.Inner.{limited}
use Rattle.ply_header.proofs.read_counted.Goals as goal

pub returns-in_err-at : goal.returns-in_err-at
unfolding and_then counted limited
returns-in_err-at c = c.from_residual.ensures ∙ rw (sym c.in_err-at.ensures)

pub returns : goal.returns
unfolding and_then counted
returns c = rw (sym c.in_ok-at.ensures) c.read_count.ensures
