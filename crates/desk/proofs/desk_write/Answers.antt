-- `desk::desk_write`: the writer's answer, packed.
use Rattle.std.proofs.Common.{length, ap, ◌∙◌}
use borrow.Author.Tests.{eq-eqb, ne_eqb}
use Rattle.pack.specs.Pack.{packed_count}
use Rattle.pack.proofs.Unpack.{counted}
use Rattle.frame_write.specs.declared.GridValues.{GridValues}
use Rattle.frame_write.specs.Write.{writing, written_bytes}
use Rattle.desk.proofs.Fitting.{list-fits, seven, not-seven}
use Rattle.desk.proofs.desk_write.Goals as goal

pub returns-then-grid-ne7 : goal.returns-then-grid-ne7
returns-then-grid-ne7 c =
    let a = c.args in
    let other = not-seven a.grid.now a.out.now a.triangles.now (ne_eqb (length a.grid.now) 7 c.if-grid-ne7.true) in
    let e = c.pack_limit.ensures ∙ ap packed_count other.0 in
    (e, counted (list-fits a.grid.now a.triangles.now (length a.out.now)) e, other.1)

pub returns : goal.returns
returns c =
    let a = c.args in
    let given = seven a.grid.now a.out.now a.triangles.now (eq-eqb (length a.grid.now) 7 c.if-grid-ne7.false) in
    let said = c.write.ensures.0 ∙ ap (λ (v : GridValues). writing v a.triangles.now (length a.out.now)) c.grid_from.ensures ∙ given.0 in
    let left = c.write.ensures.1 ∙ ap (λ (v : GridValues). written_bytes v a.triangles.now a.out.now) c.grid_from.ensures ∙ given.1 in
    let e = c.pack_count.ensures ∙ ap packed_count said in
    (e, counted (list-fits a.grid.now a.triangles.now (length a.out.now)) e, left)
