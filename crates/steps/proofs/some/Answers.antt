-- `steps::some`: the records that a file that is admitted has are added.
use Rattle.std.proofs.Common.{◌≡◌, length, sym, ap, ◌∙◌, arith}
use Rattle.refusal.specs.Limit.{gives}
use Rattle.refusal.proofs.Said.{said-err}
use Rattle.steps.specs.Steps.{present}
use Rattle.steps.proofs.Admitted.{admitted, has_room, joined, join-refused}
use Rattle.steps.proofs.Joined.{only-cells}
use Rattle.steps.proofs.some.Goals as goal

pub returns-in_err-frame : goal.returns-in_err-frame
returns-in_err-frame c =
    let a = c.args in
    let (said, left) = join-refused a.file.now a.map.now (sym c.in_err-frame.ensures.said) a.first a.count in
    (said-err _ _ c.from_residual.ensures.1 ∙ sym said, sym left)

pub fill_records-requires : goal.fill_records-requires
fill_records-requires c =
    let room = (admitted c.args.file.now (length c.args.map.now) _ (sym c.in_ok-frame.ensures.said)).1 in
    (rw (c.min-n.ensures, c.saturating_sub.ensures, c.header.ensures) (omega arith), room)

pub returns : goal.returns
returns c =
    let a = c.args in
    let e = sym c.in_ok-frame.ensures.said in
    let (said, left) = joined a.file.now a.map.now _ e a.first a.count in
    let new = c.fill_records.new.map in
    let n : c.min-n.result ≡ present c.in_ok-frame.frame.header.count a.first a.count = rw (c.min-n.ensures, c.saturating_sub.ensures, c.header.ensures) in
    let adds = rw (n, c.in_ok-frame.ensures.same) at c.fill_records.ensures in
    (ap gives n ∙ sym said, only-cells _ _ a.map.now (has_room a.file.now (length a.map.now) _ e) new (λ i. omega (arith, c.type_inv.map i)) adds ∙ sym left)
