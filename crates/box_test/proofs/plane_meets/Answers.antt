-- `box_test::plane_meets`: the form's constant is from 0 to its reach.
use Rattle.std.proofs.Common.{Bool, ◌&&◌, ap, ap₂, ◌∙◌, pos, w64}
use borrow.Author.Rules.{rules}
use lib.Signed.{le_z}
use mir.Facts.{to_z-of_z}
use Rattle.forms.specs.declared.PlaneForm.{PlaneForm}
use Rattle.forms.specs.Triangle.{plane_form}
use Rattle.box_test.specs.Inner.{plane_meets}
use Rattle.box_test.proofs.Chain.{and_then, and_else}
use Rattle.box_test.proofs.plane_meets.Goals as goal

-- the two tests
abbrev slab : PlaneForm → Bool
slab f = le_z (pos 0) f.at && le_z f.at f.reach

pub returns-then-f-ge0 : goal.returns-then-f-ge0
unfolding plane_meets
returns-then-f-ge0 c =
    let f = c.plane_form-f.result in
    let at = to_z-of_z {w = w64} {z = f.at} (search rules) in
    and_then (ap (le_z (pos 0)) at) c.if-f-ge0.true (ap₂ le_z at (to_z-of_z {w = w64} {z = f.reach} (search rules)))
    ∙ ap slab (c.plane_form-f.ensures ∙ ap (plane_form c.args.n c.args.v (pos 0)) (to_z-of_z c.ranges.extent))

pub returns-else-f-ge0 : goal.returns-else-f-ge0
unfolding plane_meets
returns-else-f-ge0 c =
    let f = c.plane_form-f.result in
    and_else (le_z f.at f.reach) (ap (le_z (pos 0)) (to_z-of_z {w = w64} {z = f.at} (search rules))) c.if-f-ge0.false
    ∙ ap slab (c.plane_form-f.ensures ∙ ap (plane_form c.args.n c.args.v (pos 0)) (to_z-of_z c.ranges.extent))
