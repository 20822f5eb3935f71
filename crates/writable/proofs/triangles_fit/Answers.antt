-- `writable::triangles_fit` meets its contract: the tests of the list say what the fields of each triangle do.
use Rattle.std.proofs.Common.{refl, sym, ap, ◌∙◌}
use Rattle.writable.specs.declared.Bounds.{Bounds}
use Rattle.writable.specs.Inner.{all_between}
use Rattle.writable.proofs.Triangles.{triangles-same}
use Rattle.writable.proofs.triangles_fit.Goals as goal

pub returns-then-all_between : goal.returns-then-all_between
returns-then-all_between c =
    let zs = c.args.triangles.now in
    let tested = c.all_between.ensures ∙ ap (λ (b : Bounds). all_between b.low b.high zs) c.signed_bounds.ensures in
    c.kinds_fit.ensures ∙ sym (triangles-same c.args.layout.shape c.args.layout.kind_held zs c.args.count c.requires ∙ rw (sym tested ∙ c.if-all_between.true) refl)

pub returns-else-all_between : goal.returns-else-all_between
returns-else-all_between c =
    let zs = c.args.triangles.now in
    let tested = c.all_between.ensures ∙ ap (λ (b : Bounds). all_between b.low b.high zs) c.signed_bounds.ensures in
    c.if-all_between.false ∙ sym (triangles-same c.args.layout.shape c.args.layout.kind_held zs c.args.count c.requires ∙ rw (sym tested ∙ c.if-all_between.false) refl)
