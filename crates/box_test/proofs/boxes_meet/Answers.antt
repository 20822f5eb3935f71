-- `box_test::boxes_meet`: three axes, up to the first that rules out the triangle.
use Rattle.std.proofs.Common.{◌≡◌, Bool, ◌&&◌, List, [], ◌∷◌, ◌∙◌, ℕ, ℤ}
use Rattle.integers.specs.Within.{Within, Withins}
use Rattle.integers.proofs.Expr.{Expr, var, nth}
use Rattle.integers.proofs.Machine.{machs, learnt}
use Rattle.geometry.specs.Bounds.{coordinate_max, extent_max, each, BoundedPoint, BoundedTriangle}
use Rattle.geometry.specs.declared.Point.{Point}
use Rattle.geometry.specs.declared.Triangle.{Triangle}
use Rattle.geometry.specs.Geometry.{cube, Axis, x_of, y_of, z_of}
use Rattle.overlap.specs.Rule.{box_holds}
use Rattle.box_test.specs.Inner.{axis_meets}
use Rattle.box_test.proofs.Chain.{and_then, and_else}
use Rattle.box_test.proofs.boxes_meet.Goals as goal
use Rattle.box_test.proofs.boxes_meet.Goals.{then-axis_meets, else-axis_meets}

-- the arguments of each call for an axis
abbrev on_x : List Expr
on_x = var 0 ∷ var 3 ∷ var 6 ∷ var 9 ∷ var 12 ∷ []

abbrev on_y : List Expr
on_y = var 1 ∷ var 4 ∷ var 7 ∷ var 10 ∷ var 12 ∷ []

abbrev on_z : List Expr
on_z = var 2 ∷ var 5 ∷ var 8 ∷ var 11 ∷ var 12 ∷ []

abbrev Meets : Bool → List ℤ → Type 0
Meets r l = r ≡ axis_meets (nth l 0) (nth l 1) (nth l 2) (nth l 3) (nth l 4)

module _ {t : Triangle} {p : Point} {extent : ℤ} (h : BoundedTriangle t) (k : BoundedPoint p) (l : Within extent_max extent) where
  -- the corners, the box's lowest corner and the extent
  abbrev ρ : List ℤ
  ρ = t.v0.x ∷ t.v0.y ∷ t.v0.z ∷ t.v1.x ∷ t.v1.y ∷ t.v1.z ∷ t.v2.x ∷ t.v2.y ∷ t.v2.z ∷ p.x ∷ p.y ∷ p.z ∷ extent ∷ []

  abbrev bs : List ℕ
  bs = each coordinate_max 12 (extent_max ∷ [])

  ins : Withins bs ρ
  ins = (h.v0.x, (h.v0.y, (h.v0.z, (h.v1.x, (h.v1.y, (h.v1.z, (h.v2.x, (h.v2.y, (h.v2.z, (k.x, (k.y, (k.z, (l, tt)))))))))))))

  abbrev holds : Axis → Bool
  holds a = box_holds t p (cube extent) a

  -- what a call said of its axis
  x-is : (r : Bool) → Meets r (machs ρ on_x) → r ≡ holds x_of
  x-is r e = learnt ρ (Meets r) on_x bs tt ins e

  y-is : (r : Bool) → Meets r (machs ρ on_y) → r ≡ holds y_of
  y-is r e = learnt ρ (Meets r) on_y bs tt ins e

  z-is : (r : Bool) → Meets r (machs ρ on_z) → r ≡ holds z_of
  z-is r e = learnt ρ (Meets r) on_z bs tt ins e

pub returns-then-axis_meets-2 : goal.returns-then-axis_meets-2
returns-then-axis_meets-2 c =
    let (h, k, l) = c.requires in
    let z = c.axis_meets-then-axis_meets-2 in
    let x = x-is h k l c.axis_meets.result c.axis_meets.ensures in
    let two : c.if-axis_meets.value ≡ (holds h k l x_of && holds h k l y_of) = elim c.if-axis_meets.branch [
      | then-axis_meets w ↦ let y = w.axis_meets-then-axis_meets in w.value-is ∙ and_then x w.if-axis_meets.true (y-is h k l y.result y.ensures)
      | else-axis_meets w ↦ w.value-is ∙ and_else (holds h k l y_of) x w.if-axis_meets.false
    ] in
    and_then two c.if-axis_meets-2.true (z-is h k l z.result z.ensures)

pub returns-else-axis_meets-2 : goal.returns-else-axis_meets-2
returns-else-axis_meets-2 c =
    let (h, k, l) = c.requires in
    let x = x-is h k l c.axis_meets.result c.axis_meets.ensures in
    let two : c.if-axis_meets.value ≡ (holds h k l x_of && holds h k l y_of) = elim c.if-axis_meets.branch [
      | then-axis_meets w ↦ let y = w.axis_meets-then-axis_meets in w.value-is ∙ and_then x w.if-axis_meets.true (y-is h k l y.result y.ensures)
      | else-axis_meets w ↦ w.value-is ∙ and_else (holds h k l y_of) x w.if-axis_meets.false
    ] in
    and_else (holds h k l z_of) two c.if-axis_meets-2.false
