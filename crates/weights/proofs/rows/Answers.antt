-- `weights::rows`: the corners and the box's low side and extent, on each axis.
use mathlib.Core.List.{List, [], ◌∷◌}
use mathlib.Core.Path.{◌≡◌}
use lib.IntN.{ℤ, pos}
use Rattle.integers.specs.Within.{Withins}
use Rattle.integers.proofs.Expr.{Expr, var, nth}
use Rattle.integers.proofs.Machine.{machs, evals, learnt}
use Rattle.geometry.specs.declared.Point.{Point}
use Rattle.geometry.specs.declared.Triangle.{Triangle}
use Rattle.geometry.specs.Geometry.{point, Axis, x_of, y_of, z_of}
use Rattle.weights.specs.declared.Sides.{Sides}
use Rattle.weights.specs.Inner.{sides_of, side_bounds}
use Rattle.weights.proofs.Sizes.{on-x, on-y, on-z}
use Rattle.weights.proofs.rows.Goals as goal

abbrev es : List Expr
es = var 0 ∷ var 1 ∷ var 2 ∷ var 3 ∷ var 4 ∷ []

abbrev On : Sides → List ℤ → Type 0
On r l = r ≡ sides_of (nth l 0) (nth l 1) (nth l 2) (nth l 3) (nth l 4)

abbrev ρ : Triangle → Point → ℤ → Axis → List ℤ
ρ t p extent a = a t.v0 ∷ a t.v1 ∷ a t.v2 ∷ a p ∷ extent ∷ []

module _ (r : List ℤ) (h : Withins side_bounds r) where
  on : (s : Sides) → On s (machs r es) → On s (evals r es)
  on s e = learnt r (On s) es side_bounds tt h e

pub returns : goal.returns
returns c =
    let a = c.args in
    let p = c.requires in
    let x = on (ρ a.t a.p a.extent x_of) (on-x p.0 p.1 p.2) _ c.sides_on-x.ensures in
    let y = on (ρ a.t a.p a.extent y_of) (on-y p.0 p.1 p.2) _ c.sides_on-y.ensures in
    let z = on (ρ a.t a.p a.extent z_of) (on-z p.0 p.1 p.2) _ c.sides_on-z.ensures in
    λ i. point (pos 1) (pos 0) (pos 0) ∷ point (pos 0) (pos 1) (pos 0) ∷ point (pos 0) (pos 0) (pos 1)
    ∷ (x i).low ∷ (y i).low ∷ (z i).low ∷ (x i).high ∷ (y i).high ∷ (z i).high ∷ []
