-- `steps::admit`: the check, then question 8.
use Rattle.std.proofs.Common.{sym, ap, ◌∙◌}
use Rattle.map.specs.Map.{map_length}
use Rattle.frame.proofs.Accepted.{sides, check-err}
use Rattle.steps.proofs.Admitted.{admit-refused, admit-short, admit-passed}
use Rattle.steps.proofs.admit.Goals as goal

pub returns-in_err-frame-clause-said : goal.returns-in_err-frame-clause-said
returns-in_err-frame-clause-said c = check-err _ _ c.from_residual.ensures.1 ∙ sym (admit-refused c.args.file.now c.args.room (sym c.in_err-frame.ensures.said))

pub cell_count-requires : goal.cell_count-requires
cell_count-requires c = rw c.header.ensures (sides _ c.in_ok-frame.frame.accepted)

pub returns-then-room-map_length-clause-said : goal.returns-then-room-map_length-clause-said
returns-then-room-map_length-clause-said c =
    let long = c.map_length.ensures ∙ ap map_length (rw c.header.ensures at c.cell_count.ensures.0) in
    sym (admit-short c.args.file.now c.args.room _ (sym c.in_ok-frame.ensures.said) (rw long at c.if-room-map_length.true))

pub returns-clause-said : goal.returns-clause-said
returns-clause-said c =
    let long = c.map_length.ensures ∙ ap map_length (rw c.header.ensures at c.cell_count.ensures.0) in
    sym (admit-passed c.args.file.now c.args.room _ (sym c.in_ok-frame.ensures.said) (rw long at c.if-room-map_length.false))
