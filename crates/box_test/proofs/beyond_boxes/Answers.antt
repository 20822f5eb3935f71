-- `box_test::beyond_boxes`: the triangle is measured from the box's lowest corner.
use Rattle.std.proofs.Common.{sym, ap₂, ◌∙◌, subst}
use mir.Facts.{to_z-of_z}
use Rattle.geometry.specs.Bounds.{offset_max, TriangleWithin}
use Rattle.placed.proofs.Measured.{measured-within}
use Rattle.box_test.specs.Inner.{forms_meet}
use Rattle.box_test.proofs.Law.{forms-law}
use Rattle.box_test.proofs.beyond_boxes.Goals as goal

pub forms_meet-requires : goal.forms_meet-requires
forms_meet-requires c =
    let p = c.requires in
    (subst (TriangleWithin offset_max) (sym c.measured_from.ensures) (measured-within p.1 p.0), rw (to_z-of_z c.ranges.extent) p.2)

pub returns : goal.returns
returns c =
    let a = c.args in
    c.forms_meet.ensures ∙ ap₂ forms_meet c.measured_from.ensures (to_z-of_z c.ranges.extent) ∙ sym (forms-law a.t a.p c.requires.3)
