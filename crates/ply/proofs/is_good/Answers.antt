-- `ply::is_good`: three corners, each of them a vertex.
use Rattle.std.proofs.Common.{sym, ◌∙◌, true≢false}
use borrow.Author.Tests.{eq-eqb, ne_eqb}
use Rattle.ply.specs.Body.{good_face}
use Rattle.ply.proofs.is_good.Goals as goal
use Rattle.ply.proofs.is_good.Goals.{then-is_index, else-is_index}

pub returns-then-s-at-ne3 : goal.returns-then-s-at-ne3
unfolding good_face
returns-then-s-at-ne3 c = rw (ne_eqb _ 3 c.if-s-at-ne3.true)

pub returns-then-is_index-2 : goal.returns-then-is_index-2
unfolding good_face
returns-then-is_index-2 c =
    elim c.if-is_index.branch [
      | then-is_index w ↦
          rw (
            eq-eqb _ 3 c.if-s-at-ne3.false,
            sym c.is_index.ensures ∙ w.if-is_index.true,
            sym w.is_index-then-is_index.ensures ∙ sym w.value-is ∙ c.if-is_index-2.true,
          )
          c.is_index-then-is_index-2.ensures
      | else-is_index w ↦ absurd (true≢false (sym c.if-is_index-2.true ∙ w.value-is ∙ w.if-is_index.false))
    ]

pub returns-else-is_index-2 : goal.returns-else-is_index-2
unfolding good_face
returns-else-is_index-2 c =
    elim c.if-is_index.branch [
      | then-is_index w ↦
          rw (
            eq-eqb _ 3 c.if-s-at-ne3.false,
            sym c.is_index.ensures ∙ w.if-is_index.true,
            sym w.is_index-then-is_index.ensures ∙ sym w.value-is ∙ c.if-is_index-2.false,
          )
          c.if-is_index-2.false
      | else-is_index w ↦ rw (eq-eqb _ 3 c.if-s-at-ne3.false, sym c.is_index.ensures ∙ w.if-is_index.false) c.if-is_index-2.false
    ]
