-- `steps::begin`: a file that is admitted has its map emptied.
use Rattle.std.proofs.Common.{ℕ, ◌++◌, length, drop, replicate, sym, ap, ◌∙◌}
use Rattle.map.specs.Map.{map_length}
use Rattle.refusal.proofs.Said.{said-err}
use Rattle.frame.proofs.Accepted.{sides}
use Rattle.steps.proofs.Admitted.{admitted, begun, begin-refused}
use Rattle.steps.proofs.begin.Goals as goal

pub returns-in_err-admit : goal.returns-in_err-admit
returns-in_err-admit c =
    let (said, left) = begin-refused c.args.file.now c.args.map.now (sym c.in_err-admit.ensures.said) in
    (said-err _ _ c.from_residual.ensures.1 ∙ sym said, sym left)

pub cell_count-requires : goal.cell_count-requires
cell_count-requires c = rw c.header-header.ensures (sides _ c.in_ok-admit.field-0.accepted)

pub clear-requires : goal.clear-requires
clear-requires c =
    rw (c.map_length.ensures ∙ ap map_length (rw c.header-header.ensures at c.cell_count.ensures.0))
    (admitted c.args.file.now (length c.args.map.now) _ (sym c.in_ok-admit.ensures.said)).1

pub returns : goal.returns
returns c =
    let a = c.args in
    let (said, left) = begun a.file.now a.map.now _ (sym c.in_ok-admit.ensures.said) in
    let len = c.map_length.ensures ∙ ap map_length (rw c.header-header.ensures at c.cell_count.ensures.0) in
    (rw c.header-header.ensures (sym said), c.clear.ensures ∙ ap (λ (n : ℕ). replicate n 0 ++ drop n a.map.now) len ∙ sym left)
