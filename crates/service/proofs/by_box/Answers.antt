-- `service::by_box`: the test says which case.
use mathlib.Core.Path.{refl, sym, ap, ◌∙◌}
use lib.IntN.{ℤ}
use mir.Syntax.{w64}
use mir.Facts.{to_z-of_z}
use Rattle.geometry.specs.Geometry.{cube}
use Rattle.box_test.specs.Inner.{boxes_hold}
use Rattle.service.proofs.by_box.Goals as goal

pub boxes_meet-requires : goal.boxes_meet-requires
boxes_meet-requires c = let p = c.requires in (p.0, p.1, rw (to_z-of_z {w = w64} c.ranges.extent) p.2)

pub returns-then-boxes_meet : goal.returns-then-boxes_meet
returns-then-boxes_meet c =
    let a = c.args in
    (refl, sym (c.boxes_meet.ensures ∙ ap (λ (d : ℤ). boxes_hold a.t a.p (cube d)) (to_z-of_z {w = w64} c.ranges.extent)) ∙ c.if-boxes_meet.true)

pub returns : goal.returns
returns c =
    let a = c.args in
    sym (c.boxes_meet.ensures ∙ ap (λ (d : ℤ). boxes_hold a.t a.p (cube d)) (to_z-of_z {w = w64} c.ranges.extent)) ∙ c.if-boxes_meet.false
