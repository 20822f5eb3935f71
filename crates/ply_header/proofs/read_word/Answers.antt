-- `ply_header::read_word`: each turn is one step of `behind`.
use Rattle.std.proofs.Common.{sym, ◌∙◌}
use Rattle.ply_header.proofs.Texts.{cut, other, next, whole}
use Rattle.ply_header.proofs.read_word.Goals as goal

pub returns-in_err-get : goal.returns-in_err-get
returns-in_err-get c = c.from_residual.ensures ∙ cut c.loop-c.invariant c.loop-c-test.true c.in_err-get.ensures.lookup.3

pub returns-then-branch-c : goal.returns-then-branch-c
returns-then-branch-c c =
    let item = c.in_ok-get.ensures.lookup.3 in
    other c.loop-c.invariant c.loop-c-test.true item.0 (λ e. c.if-branch-c.true (item.1 0 ∙ e))

pub loop-c-preserved : goal.loop-c-preserved
loop-c-preserved c =
    let item = c.in_ok-get.ensures.lookup.3 in
    next c.loop-c.invariant c.loop-c-test.true item.0 (sym (item.1 0) ∙ c.if-branch-c.false)

pub returns : goal.returns
returns c = whole c.loop-c.invariant c.loop-c-test.false
