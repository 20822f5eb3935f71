-- `ply_header::comment_word`: the word, and what stands behind it.
use Rattle.std.proofs.Common.{Bool, ℕ, eqb, sym, ap, ◌∙◌}
use Rattle.std.specs.Bool.{then_some}
use borrow.Author.Tests.{eq-eqb}
use Rattle.ply_header.proofs.Comments.{no_word, cut, feed, space}
use Rattle.ply_header.proofs.comment_word.Goals as goal
use Rattle.ply_header.proofs.comment_word.Goals.{then-c-eq10, else-c-eq10}

pub returns-in_err-i : goal.returns-in_err-i
returns-in_err-i c = c.from_residual.ensures ∙ no_word c.args.s.now c.args.at (sym c.in_err-i.ensures)

pub returns-in_err-c : goal.returns-in_err-c
returns-in_err-c c = c.from_residual-in_err-c.ensures ∙ cut c.args.s.now c.args.at _ (sym c.in_ok-i.ensures) c.in_err-c.ensures.lookup.3

pub returns : goal.returns
returns c =
    let item = c.in_ok-c.ensures.lookup.3 in
    let at = sym c.in_ok-i.ensures in
    let test = λ (b : Bool). then_some b c.in_ok-i.i in
    c.then_some.ensures
    ∙ elim c.if-c-eq10.branch [
      | then-c-eq10 w ↦ ap test (w.ends-is ∙ eq-eqb _ 10 w.if-c-eq10.true) ∙ feed c.args.s.now c.args.at _ at item.0 (sym (item.1 0) ∙ w.if-c-eq10.true)
      | else-c-eq10 w ↦ ap test (w.ends-is ∙ ap (λ (v : ℕ). eqb v 32) (item.1 0)) ∙ space c.args.s.now c.args.at _ at item.0 (λ e. w.if-c-eq10.false (item.1 0 ∙ e))
    ]
