-- `entry::Entries::of_leg`: the leg's ends and the first box's corner, on each axis.
use mathlib.Core.List.{List, [], ◌∷◌}
use mathlib.Core.Path.{◌≡◌}
use lib.IntN.{ℤ}
use Rattle.integers.specs.Within.{Withins}
use Rattle.integers.proofs.Expr.{Expr, var, nth}
use Rattle.integers.proofs.Machine.{bounded, learnt, machs, evals}
use Rattle.geometry.specs.declared.Point.{Point}
use Rattle.geometry.specs.Bounds.{BoundedPoint}
use Rattle.geometry.specs.Geometry.{Axis, x_of, y_of, z_of}
use Rattle.grid.specs.declared.Lattice.{Lattice}
use Rattle.grid.specs.Usable.{UsableLattice}
use Rattle.entry.specs.declared.AxisEntry.{AxisEntry}
use Rattle.entry.specs.Inner.{entry_bounds, axis_entry_of}
use Rattle.entry.proofs.Entries.of_leg.Goals as goal

abbrev es : List Expr
es = var 0 ∷ var 1 ∷ var 2 ∷ var 3 ∷ var 4 ∷ []

abbrev On : AxisEntry → List ℤ → Type 0
On r l = r ≡ axis_entry_of (nth l 0) (nth l 1) (nth l 2) (nth l 3) (nth l 4)

abbrev ρ : (a b : Point) (l : Lattice) → Axis → List ℤ
ρ a b l c = c a ∷ c b ∷ c l.first ∷ l.step ∷ l.extent ∷ []

-- the numbers on each axis are within their bounds
module _ {a b : Point} {l : Lattice} (p : BoundedPoint a × BoundedPoint b × UsableLattice l) where
  in-x : Withins entry_bounds (ρ a b l x_of)
  in-x = (p.0.x, (p.1.x, (p.2.first.x, (p.2.step, (p.2.extent, tt)))))

  in-y : Withins entry_bounds (ρ a b l y_of)
  in-y = (p.0.y, (p.1.y, (p.2.first.y, (p.2.step, (p.2.extent, tt)))))

  in-z : Withins entry_bounds (ρ a b l z_of)
  in-z = (p.0.z, (p.1.z, (p.2.first.z, (p.2.step, (p.2.extent, tt)))))

module _ (r : List ℤ) (h : Withins entry_bounds r) where
  asked : Withins entry_bounds (machs r es)
  asked = bounded r es entry_bounds entry_bounds tt h

  on : (e : AxisEntry) → On e (machs r es) → On e (evals r es)
  on e k = learnt r (On e) es entry_bounds tt h k

pub of_leg-x-requires : goal.of_leg-x-requires
of_leg-x-requires c = let a = c.args in asked (ρ a.a a.b a.l x_of) (in-x c.requires)

pub of_leg-y-requires : goal.of_leg-y-requires
of_leg-y-requires c = let a = c.args in asked (ρ a.a a.b a.l y_of) (in-y c.requires)

pub of_leg-z-requires : goal.of_leg-z-requires
of_leg-z-requires c = let a = c.args in asked (ρ a.a a.b a.l z_of) (in-z c.requires)

pub returns : goal.returns
returns c =
    let a = c.args in
    let x = on (ρ a.a a.b a.l x_of) (in-x c.requires) _ c.of_leg-x.ensures in
    let y = on (ρ a.a a.b a.l y_of) (in-y c.requires) _ c.of_leg-y.ensures in
    let z = on (ρ a.a a.b a.l z_of) (in-z c.requires) _ c.of_leg-z.ensures in
    λ i. record { x = x i; y = y i; z = z i }
