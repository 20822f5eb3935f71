-- `ply_header::read_axis`: the line, piece by piece.
use Rattle.std.proofs.Common.{sym, ◌∙◌}
use Rattle.ply_header.specs.Text.{and_then, and_read}
use Rattle.ply_header.specs.Header.{axis}
use Rattle.ply_header.proofs.read_axis.Goals as goal

pub returns-in_err-at : goal.returns-in_err-at
unfolding and_then axis
returns-in_err-at c = c.from_residual.ensures ∙ rw (sym c.in_err-at.ensures)

pub returns-in_err-scalar : goal.returns-in_err-scalar
unfolding and_then and_read axis
returns-in_err-scalar c = c.from_residual-in_err-scalar.ensures ∙ rw (sym c.in_ok-at.ensures, sym c.in_err-scalar.ensures)

pub returns-in_err-at-2 : goal.returns-in_err-at-2
unfolding and_then and_read axis
returns-in_err-at-2 c =
    c.from_residual-in_err-at-2.ensures ∙ rw (sym c.in_ok-at.ensures, sym c.in_ok-scalar.ensures, sym c.in_err-at-2.ensures)

pub returns : goal.returns
unfolding and_then and_read axis
returns c = rw (sym c.in_ok-at.ensures, sym c.in_ok-scalar.ensures, sym c.in_ok-at-2.ensures)
