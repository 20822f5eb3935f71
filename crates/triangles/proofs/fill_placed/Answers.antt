-- `triangles::fill_placed`: the forms are those of the placed triangle, and the columns draw its cells.
use Rattle.std.proofs.Common.{ℤ}
use mathlib.Core.Path.{subst₂}
use mir.Facts.{to_z-of_z}
use Rattle.forms.specs.Triangle.{FormsFor}
use Rattle.triangles.proofs.Ways.{placed-columns}
use Rattle.triangles.proofs.fill_placed.Goals as goal

pub returns : goal.returns
returns c =
    let a = c.args in
    let forms = c.triangle_forms-forms in
    let made = subst₂ (λ (x y : ℤ). FormsFor a.p.t x y forms.result) (to_z-of_z c.ranges.step) (to_z-of_z c.ranges.extent) forms.ensures in
    placed-columns a.p a.step a.extent forms.result c.requires.thick made c.fill_columns.ensures
