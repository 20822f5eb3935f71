-- `fill::fill`: a refusal is the check's, and it leaves the map as it was.
use Rattle.std.proofs.Common.{sym, ◌∙◌}
use Rattle.refusal.proofs.Said.{said-err}
use Rattle.fill.proofs.Answers.{fill-refused}
use Rattle.fill.proofs.fill.Goals as goal

pub returns-in_err-frame : goal.returns-in_err-frame
returns-in_err-frame c =
    let (said, left) = fill-refused c.args.file.now c.args.map.now (sym c.in_err-frame.ensures.said) in
    (said-err _ _ c.from_residual.ensures.1 ∙ sym said, sym left)
