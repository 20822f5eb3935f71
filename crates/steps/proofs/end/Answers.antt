-- `steps::end`: the filled cells of a file that is admitted are counted.
use Rattle.std.proofs.Common.{length, sym, ap, ◌∙◌, arith}
use Rattle.refusal.specs.Limit.{gives}
use Rattle.refusal.proofs.Said.{said-err}
use Rattle.map.specs.Map.{is_filled, count_below}
use Rattle.frame.proofs.Accepted.{sides}
use Rattle.steps.proofs.Admitted.{admitted, ended, end_refused}
use Rattle.steps.proofs.end.Goals as goal

pub returns-in_err-admit : goal.returns-in_err-admit
returns-in_err-admit c = said-err _ _ c.from_residual.ensures.1 ∙ sym (end_refused c.args.file.now c.args.map.now (sym c.in_err-admit.ensures.said))

pub cell_count-requires : goal.cell_count-requires
cell_count-requires c = rw c.header-header.ensures (sides _ c.in_ok-admit.field-0.accepted)

pub count-requires : goal.count-requires
count-requires c =
    let room = (admitted c.args.file.now (length c.args.map.now) _ (sym c.in_ok-admit.ensures.said)).1 in
    rw (c.cell_count.ensures.0, c.header-header.ensures) (omega (arith, room))

pub returns : goal.returns
returns c =
    let n = rw c.header-header.ensures at c.cell_count.ensures.0 in
    ap gives (c.count.ensures ∙ ap (count_below (is_filled c.args.map.now)) n) ∙ sym (ended c.args.file.now c.args.map.now _ (sym c.in_ok-admit.ensures.said))
