-- `ply_header::read_header`: line by line.
use Rattle.std.proofs.Common.{sym, ◌∙◌}
use Rattle.ply_header.specs.Text.{and_then, and_read}
use Rattle.ply_header.proofs.Roomy.{roomy_header, roomy-is}
use Rattle.ply_header.proofs.read_header.Goals as goal

pub returns-in_err-at : goal.returns-in_err-at
unfolding and_then and_read roomy_header
returns-in_err-at c = c.from_residual.ensures ∙ rw (roomy-is _ _, sym c.in_err-at.ensures)

pub returns-in_err-at-2 : goal.returns-in_err-at-2
unfolding and_then and_read roomy_header
returns-in_err-at-2 c = c.from_residual-in_err-at-2.ensures ∙ rw (roomy-is _ _, sym c.in_ok-at.ensures, sym c.in_err-at-2.ensures)

pub returns-in_err-vertices : goal.returns-in_err-vertices
unfolding and_then and_read roomy_header
returns-in_err-vertices c = c.from_residual-in_err-vertices.ensures ∙ rw (roomy-is _ _, sym c.in_ok-at.ensures, sym c.in_ok-at-2.ensures, sym c.in_err-vertices.ensures)

pub returns-in_err-x : goal.returns-in_err-x
unfolding and_then and_read roomy_header
returns-in_err-x c = c.from_residual-in_err-x.ensures ∙ rw (roomy-is _ _, sym c.in_ok-at.ensures, sym c.in_ok-at-2.ensures, sym c.in_ok-vertices.ensures, sym c.in_err-x.ensures)

pub returns-in_err-y : goal.returns-in_err-y
unfolding and_then and_read roomy_header
returns-in_err-y c = c.from_residual-in_err-y.ensures ∙ rw (roomy-is _ _, sym c.in_ok-at.ensures, sym c.in_ok-at-2.ensures, sym c.in_ok-vertices.ensures, sym c.in_ok-x.ensures, sym c.in_err-y.ensures)

pub returns-in_err-z : goal.returns-in_err-z
unfolding and_then and_read roomy_header
returns-in_err-z c = c.from_residual-in_err-z.ensures ∙ rw (roomy-is _ _, sym c.in_ok-at.ensures, sym c.in_ok-at-2.ensures, sym c.in_ok-vertices.ensures, sym c.in_ok-x.ensures, sym c.in_ok-y.ensures, sym c.in_err-z.ensures)

pub returns-in_err-faces : goal.returns-in_err-faces
unfolding and_then and_read roomy_header
returns-in_err-faces c = c.from_residual-in_err-faces.ensures ∙ rw (roomy-is _ _, sym c.in_ok-at.ensures, sym c.in_ok-at-2.ensures, sym c.in_ok-vertices.ensures, sym c.in_ok-x.ensures, sym c.in_ok-y.ensures, sym c.in_ok-z.ensures, sym c.in_err-faces.ensures)

pub returns-in_err-at-3 : goal.returns-in_err-at-3
unfolding and_then and_read roomy_header
returns-in_err-at-3 c = c.from_residual-in_err-at-3.ensures ∙ rw (roomy-is _ _, sym c.in_ok-at.ensures, sym c.in_ok-at-2.ensures, sym c.in_ok-vertices.ensures, sym c.in_ok-x.ensures, sym c.in_ok-y.ensures, sym c.in_ok-z.ensures, sym c.in_ok-faces.ensures, sym c.in_err-at-3.ensures)

pub returns-in_err-body : goal.returns-in_err-body
unfolding and_then and_read roomy_header
returns-in_err-body c = c.from_residual-in_err-body.ensures ∙ rw (roomy-is _ _, sym c.in_ok-at.ensures, sym c.in_ok-at-2.ensures, sym c.in_ok-vertices.ensures, sym c.in_ok-x.ensures, sym c.in_ok-y.ensures, sym c.in_ok-z.ensures, sym c.in_ok-faces.ensures, sym c.in_ok-at-3.ensures, sym c.in_err-body.ensures)

pub returns : goal.returns
unfolding and_then and_read roomy_header
returns c = rw (roomy-is _ _, sym c.in_ok-at.ensures, sym c.in_ok-at-2.ensures, sym c.in_ok-vertices.ensures, sym c.in_ok-x.ensures, sym c.in_ok-y.ensures, sym c.in_ok-z.ensures, sym c.in_ok-faces.ensures, sym c.in_ok-at-3.ensures, sym c.in_ok-body.ensures)
