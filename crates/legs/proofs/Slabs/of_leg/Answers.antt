-- `legs::Slabs::of_leg`: the leg's direction and its start, measured from the first box, in each plane.
use mathlib.Core.List.{List, [], ◌∷◌}
use mathlib.Core.Path.{◌≡◌}
use Prim.Native.Nat.{ℕ}
use lib.IntN.{ℤ, pos}
use lib.Signed.{◌<ℤ◌}
use mir.Syntax.{w64}
use mir.Val.{to_z, of_z}
use Rattle.integers.specs.Within.{Withins}
use Rattle.integers.proofs.Expr.{Expr, var, ◌⊖◌, nth}
use Rattle.integers.proofs.Machine.{run, bounded, learnt}
use Rattle.geometry.specs.Bounds.{coordinate_max, step_max, extent_max, BoundedPoint}
use Rattle.geometry.specs.declared.Point.{Point}
use Rattle.grid.specs.declared.Lattice.{Lattice}
use Rattle.grid.specs.Usable.{UsableLattice}
use Rattle.legs.specs.Form.{Form}
use Rattle.legs.specs.Slab.{slab_of, slab_bounds}
use Rattle.legs.proofs.Slabs.of_leg.Goals as goal

abbrev ρ : (a b : Point) → Lattice → List ℤ
ρ a b l = a.x ∷ a.y ∷ a.z ∷ b.x ∷ b.y ∷ b.z ∷ l.first.x ∷ l.first.y ∷ l.first.z ∷ l.step ∷ l.extent ∷ []

abbrev bs : List ℕ
bs =
    coordinate_max ∷ coordinate_max ∷ coordinate_max ∷ coordinate_max ∷ coordinate_max ∷ coordinate_max ∷ coordinate_max ∷ coordinate_max ∷ coordinate_max
    ∷ step_max ∷ extent_max ∷ []

ins : {a b : Point} {l : Lattice} → BoundedPoint a × BoundedPoint b × UsableLattice l → Withins bs (ρ a b l)
ins h =
    let a = h.0 in
    let b = h.1 in
    let l = h.2 in
    let o = l.first in
    (a.x, (a.y, (a.z, (b.x, (b.y, (b.z, (o.x, (o.y, (o.z, (l.step, (l.extent, tt)))))))))))

-- the step, as the machine reads it
step-up : (a b : Point) {l : Lattice} → BoundedPoint a × BoundedPoint b × UsableLattice l → pos 0 <ℤ to_z w64 (of_z w64 l.step)
step-up a b {l} h = rw (run (ρ a b l) (var 9) bs tt (ins h)) h.2.positive

-- a difference of two numbers
abbrev apart : (i j : ℕ) → Expr
apart i j = var i ⊖ var j

-- what each call is given, and what it ensures
abbrev xy : List Expr
xy = apart 3 0 ∷ apart 4 1 ∷ apart 0 6 ∷ apart 1 7 ∷ var 9 ∷ var 10 ∷ []

abbrev yz : List Expr
yz = apart 4 1 ∷ apart 5 2 ∷ apart 1 7 ∷ apart 2 8 ∷ var 9 ∷ var 10 ∷ []

abbrev zx : List Expr
zx = apart 5 2 ∷ apart 3 0 ∷ apart 2 8 ∷ apart 0 6 ∷ var 9 ∷ var 10 ∷ []

abbrev Is : Form → List ℤ → Type 0
Is r l = r ≡ slab_of (nth l 0) (nth l 1) (nth l 2) (nth l 3) (nth l 4) (nth l 5)

pub of_leg-xy-requires : goal.of_leg-xy-requires
of_leg-xy-requires c = (bounded (ρ c.args.a c.args.b c.args.l) xy bs slab_bounds tt (ins c.requires), step-up c.args.a c.args.b c.requires)

pub of_leg-yz-requires : goal.of_leg-yz-requires
of_leg-yz-requires c = (bounded (ρ c.args.a c.args.b c.args.l) yz bs slab_bounds tt (ins c.requires), step-up c.args.a c.args.b c.requires)

pub of_leg-zx-requires : goal.of_leg-zx-requires
of_leg-zx-requires c = (bounded (ρ c.args.a c.args.b c.args.l) zx bs slab_bounds tt (ins c.requires), step-up c.args.a c.args.b c.requires)

pub returns : goal.returns
returns c =
    let r = ρ c.args.a c.args.b c.args.l in
    let h = ins c.requires in
    λ i. record {
      xy = learnt r (Is c.of_leg-xy.result) xy bs tt h c.of_leg-xy.ensures i;
      yz = learnt r (Is c.of_leg-yz.result) yz bs tt h c.of_leg-yz.ensures i;
      zx = learnt r (Is c.of_leg-zx.result) zx bs tt h c.of_leg-zx.ensures i;
    }
