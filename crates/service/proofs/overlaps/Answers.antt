-- `service::overlaps`: the boxes, then what the rule asks beyond them.
use mathlib.Core.Bool.{Bool, true, false, ◌&&◌}
use mathlib.Core.List.{List}
use mathlib.Core.Path.{◌≡◌, sym, ◌∙◌, subst}
use Prim.Native.Nat.{ℕ}
use lib.IntN.{ℤ}
use mir.Syntax.{w64}
use mir.Val.{SFits, to_z, of_z}
use mir.Facts.{to_z-of_z}
use Rattle.geometry.specs.declared.Point.{Point}
use Rattle.geometry.specs.declared.Triangle.{Triangle}
use Rattle.geometry.specs.Geometry.{cube}
use Rattle.geometry.specs.Bounds.{BoundedTriangle}
use Rattle.column_rule.specs.Column.{forms_hold}
use Rattle.column_rule.proofs.Law.{rule-parts}
use Rattle.box_test.specs.Inner.{boxes_hold}
use Rattle.frame.specs.File.{record_of}
use Rattle.frame.proofs.Triangles.{triangle-bounded}
use Rattle.std.specs.Prelude.{Option}
use Rattle.service.specs.Inner.{overlaps_record, ByBox}
use Rattle.service.proofs.overlaps.Goals as goal

-- what is said of the triangle t by its box, in the case n
said : (t : Triangle) (p : Point) (extent : ℤ) → SFits w64 extent → (m n : Option Triangle) → m ≡ n → ByBox t p (cube (to_z w64 (of_z w64 extent))) m
    → ByBox t p (cube extent) n
said t p extent f m n e h = subst (ByBox t p (cube extent)) e (subst (λ (d : ℤ). ByBox t p (cube d) m) (to_z-of_z {w = w64} f) h)

-- the rule is both parts
both : (file : List ℕ) (i : ℕ) (p : Point) (extent : ℤ) (b : Bool) → let t = (record_of file i).triangle in boxes_hold t p (cube extent) ≡ b
    → (b && forms_hold t p (cube extent)) ≡ overlaps_record file p (cube extent) i
both file i p extent b e = let t = (record_of file i).triangle in (λ k. sym e k && forms_hold t p (cube extent)) ∙ sym (rule-parts t p (cube extent))

pub beyond_boxes-requires : goal.beyond_boxes-requires
beyond_boxes-requires c =
    let a = c.args in
    let p = c.requires in
    let t = (record_of a.frame.now.file.now a.i).triangle in
    let handed = said t a.p a.extent c.ranges.extent _ _ c.in-Some.is c.near_record.ensures in
    let e = to_z-of_z {w = w64} c.ranges.extent in
    (subst BoundedTriangle (sym handed.0) (triangle-bounded a.frame.now.file.now a.i), p.1, rw e p.2, rw e p.3)

pub returns-in-None : goal.returns-in-None
returns-in-None c =
    let a = c.args in
    let t = (record_of a.frame.now.file.now a.i).triangle in
    both a.frame.now.file.now a.i a.p a.extent false (said t a.p a.extent c.ranges.extent _ _ c.in-None.is c.near_record.ensures)

pub returns-in-Some : goal.returns-in-Some
returns-in-Some c =
    let a = c.args in
    let t = (record_of a.frame.now.file.now a.i).triangle in
    let handed = said t a.p a.extent c.ranges.extent _ _ c.in-Some.is c.near_record.ensures in
    c.beyond_boxes.ensures
    ∙ (λ k. forms_hold (handed.0 k) a.p (cube (to_z-of_z {w = w64} c.ranges.extent k)))
    ∙ both a.frame.now.file.now a.i a.p a.extent true handed.1
