-- `ply_vertex::is_placed`: the first number that is not there ends it.
use Rattle.std.proofs.Common.{sym, ◌∙◌, true≢false}
use Rattle.ply_vertex.specs.Vertex.{vertex_at, placed}
use Rattle.ply_vertex.proofs.Parts.{first-in, second-in, third-in}
use Rattle.ply_vertex.proofs.is_placed.Goals as goal
use Rattle.ply_vertex.proofs.is_placed.Goals.{then-is_whole, else-is_whole}

pub is_whole-requires : goal.is_whole-requires
is_whole-requires c = first-in c.args.f c.args.at c.requires

pub is_whole-requires-then-is_whole : goal.is_whole-requires-then-is_whole
is_whole-requires-then-is_whole c = second-in c.args.f c.args.at c.requires c.width.ensures.0

pub is_whole-requires-then-is_whole-2 : goal.is_whole-requires-then-is_whole-2
is_whole-requires-then-is_whole-2 c = third-in c.args.f c.args.at c.requires c.width.ensures.0 c.width-2.ensures.0

pub returns-then-is_whole-2 : goal.returns-then-is_whole-2
unfolding placed vertex_at
returns-then-is_whole-2 c =
    elim c.if-is_whole.branch [
      | then-is_whole w ↦
          rw (
            sym c.is_whole.ensures ∙ w.if-is_whole.true,
            sym c.width.ensures.0,
            sym w.is_whole-then-is_whole.ensures ∙ sym w.value-is ∙ c.if-is_whole-2.true,
            sym c.width-2.ensures.0,
          )
          c.is_whole-then-is_whole-2.ensures
      | else-is_whole w ↦ absurd (true≢false (sym c.if-is_whole-2.true ∙ w.value-is ∙ w.if-is_whole.false))
    ]

pub returns-else-is_whole-2 : goal.returns-else-is_whole-2
unfolding placed vertex_at
returns-else-is_whole-2 c =
    elim c.if-is_whole.branch [
      | then-is_whole w ↦
          rw (
            sym c.is_whole.ensures ∙ w.if-is_whole.true,
            sym c.width.ensures.0,
            sym w.is_whole-then-is_whole.ensures ∙ sym w.value-is ∙ c.if-is_whole-2.false,
          )
          c.if-is_whole-2.false
      | else-is_whole w ↦ rw (sym c.is_whole.ensures ∙ w.if-is_whole.false) c.if-is_whole-2.false
    ]
