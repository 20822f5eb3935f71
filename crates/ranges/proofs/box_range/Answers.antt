-- `ranges::box_range`: one range for each axis.
use mathlib.Core.List.{List, [], ◌∷◌}
use Prim.Native.Nat.{ℕ}
use lib.IntN.{ℤ}
use Rattle.integers.specs.Within.{Withins}
use Rattle.std.specs.Int.{int_min, int_max}
use Rattle.integers.proofs.Expr.{Expr, var, nth}
use Rattle.integers.proofs.Machine.{learnt}
use Rattle.grid.specs.declared.CellRange.{CellRange}
use Rattle.geometry.specs.Geometry.{Axis, x_of, y_of, z_of}
use Rattle.ranges.specs.Range.{axis_bounds, Picks, ends_from, begins_by}
use Rattle.ranges.proofs.box_range.Goals as goal
use Rattle.ranges.proofs.box_range.Goals.{After-axis_range-z}

-- the numbers of an axis
abbrev ρ : After-axis_range-z → Axis → List ℤ
ρ c a =
    let g = c.args in
    a g.v0 ∷ a g.v1 ∷ a g.v2 ∷ a g.l.first ∷ g.l.step ∷ g.l.extent ∷ []

ins-x : (c : After-axis_range-z) → Withins axis_bounds (ρ c x_of)
ins-x c = let t = c.requires.0 in let g = c.requires.1 in (t.v0.x, (t.v1.x, (t.v2.x, (g.first.x, (g.step, (g.extent, tt))))))

ins-y : (c : After-axis_range-z) → Withins axis_bounds (ρ c y_of)
ins-y c = let t = c.requires.0 in let g = c.requires.1 in (t.v0.y, (t.v1.y, (t.v2.y, (g.first.y, (g.step, (g.extent, tt))))))

ins-z : (c : After-axis_range-z) → Withins axis_bounds (ρ c z_of)
ins-z c = let t = c.requires.0 in let g = c.requires.1 in (t.v0.z, (t.v1.z, (t.v2.z, (g.first.z, (g.step, (g.extent, tt))))))

-- what `axis_range` ensures
abbrev es : List Expr
es = var 0 ∷ var 1 ∷ var 2 ∷ var 3 ∷ var 4 ∷ var 5 ∷ []

abbrev Picked : ℕ → CellRange → List ℤ → Type 0
Picked n r l =
    Picks n (ends_from (int_min (int_min (nth l 0) (nth l 1)) (nth l 2)) (nth l 3) (nth l 4) (nth l 5)) (begins_by (int_max (int_max (nth l 0) (nth l 1)) (nth l 2)) (nth l 3) (nth l 4)) r

pub returns : goal.returns
returns c =
    let a = c.args in
    record {
      x = learnt (ρ c x_of) (Picked a.nx c.axis_range-x.result) es axis_bounds tt (ins-x c) c.axis_range-x.ensures;
      y = learnt (ρ c y_of) (Picked a.ny c.axis_range-y.result) es axis_bounds tt (ins-y c) c.axis_range-y.ensures;
      z = learnt (ρ c z_of) (Picked a.nz c.axis_range-z.result) es axis_bounds tt (ins-z c) c.axis_range-z.ensures;
    }
