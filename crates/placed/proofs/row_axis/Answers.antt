-- `placed::row_axis`: each axis is tested, and two tests that hold name the third.
use Rattle.std.proofs.Common.{◌≡◌, List, [], ◌∷◌, Bool, ℤ}
use Rattle.integers.specs.Within.{Withins}
use Rattle.integers.proofs.Expr.{Expr, var, nth}
use Rattle.integers.proofs.Machine.{machs, learnt}
use Rattle.geometry.specs.Bounds.{BoundedTriangle}
use Rattle.geometry.specs.declared.Triangle.{Triangle}
use Rattle.geometry.specs.Geometry.{Axis, x_of, y_of, z_of}
use Rattle.grid.specs.Usable.{UsableLattice}
use Rattle.grid.specs.declared.BoxRange.{BoxRange}
use Rattle.grid.specs.declared.CellRange.{CellRange}
use Rattle.grid.specs.declared.Lattice.{Lattice}
use Rattle.placed.specs.Box.{is_one, one_bounds, axis_of, row_axis, Firsts}
use Rattle.placed.proofs.row_axis.Goals as goal

abbrev es : List Expr
es = var 0 ∷ var 1 ∷ var 2 ∷ var 3 ∷ var 4 ∷ var 5 ∷ []

-- what a test says
abbrev Says : CellRange → Bool → List ℤ → Type 0
Says r b l = b ≡ is_one r (nth l 0) (nth l 1) (nth l 2) (nth l 3) (nth l 4) (nth l 5)

module _ {l : Lattice} {b : BoxRange} {t : Triangle} (h : Firsts b × UsableLattice l × BoundedTriangle t) where
  -- the numbers of an axis
  abbrev ρ : Axis → List ℤ
  ρ a = a l.first ∷ l.step ∷ l.extent ∷ a t.v0 ∷ a t.v1 ∷ a t.v2 ∷ []

  ins-x : Withins one_bounds (ρ x_of)
  ins-x = let (_, p, q) = h in (p.first.x, (p.step, (p.extent, (q.v0.x, (q.v1.x, (q.v2.x, tt))))))

  ins-y : Withins one_bounds (ρ y_of)
  ins-y = let (_, p, q) = h in (p.first.y, (p.step, (p.extent, (q.v0.y, (q.v1.y, (q.v2.y, tt))))))

  ins-z : Withins one_bounds (ρ z_of)
  ins-z = let (_, p, q) = h in (p.first.z, (p.step, (p.extent, (q.v0.z, (q.v1.z, (q.v2.z, tt))))))

  -- of the three tests' answers, the axis
  axis : {x y z : Bool} → Says b.x x (machs (ρ x_of) es) → Says b.y y (machs (ρ y_of) es) → Says b.z z (machs (ρ z_of) es) → axis_of x y z ≡ row_axis l b t
  axis {x} {y} {z} e f g =
      let in-x = learnt (ρ x_of) (Says b.x x) es one_bounds tt ins-x e in
      let in-y = learnt (ρ y_of) (Says b.y y) es one_bounds tt ins-y f in
      let in-z = learnt (ρ z_of) (Says b.z z) es one_bounds tt ins-z g in
      λ i. axis_of (in-x i) (in-y i) (in-z i)

pub returns-in-true-true-default : goal.returns-in-true-true-default
returns-in-true-true-default c = let w = c.in-true-true-default in axis c.requires w.ensures w.ensures' c.is_one-in_z.ensures

pub returns-in-true-false-true : goal.returns-in-true-false-true
returns-in-true-false-true c = let w = c.in-true-false-true in axis c.requires w.ensures w.ensures' w.ensures''

pub returns-in-false-true-true : goal.returns-in-false-true-true
returns-in-false-true-true c = let w = c.in-false-true-true in axis c.requires w.ensures w.ensures' w.ensures''

pub returns-in_default : goal.returns-in_default
returns-in_default c = let w = c.in_default in axis c.requires w.ensures w.ensures' w.ensures''

pub returns-in_default-2 : goal.returns-in_default-2
returns-in_default-2 c = let w = c.in_default in axis c.requires w.ensures w.ensures' w.ensures''

pub returns-in_default-3 : goal.returns-in_default-3
returns-in_default-3 c = let w = c.in_default in axis c.requires w.ensures w.ensures' c.is_one-in_z.ensures
