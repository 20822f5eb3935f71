-- `legs::Slab::narrow`: along a run the slab's form is one of the cell's number.
use mathlib.Core.Bool.{◌&&◌}
use mathlib.Core.List.{List, [], ◌∷◌}
use mathlib.Core.Path.{sym, ap, subst}
use Prim.Native.Nat.{ℕ}
use lib.IntN.{ℤ, pos, ◌*ℤ◌, +ℤ_assoc}
use lib.Signed.{le_z}
use Rattle.integers.specs.Within.{Withins}
use Rattle.integers.proofs.Expr.{Expr, var, ◌⊕◌, ◌⊗◌, nth}
use Rattle.integers.proofs.Machine.{learnt}
use Rattle.geometry.specs.Bounds.{index_max}
use Rattle.runs.specs.Run.{slope_max, reach_max, Narrows, in_slab}
use Rattle.runs.proofs.Narrow.{by-same}
use Rattle.legs.specs.declared.Slab.TheInside.{Inside}
use Rattle.legs.specs.Form.{Form}
use Rattle.legs.specs.Slab.{slab_along}
use Rattle.legs.proofs.Slab.narrow.Goals as goal

abbrev bs : List ℕ
bs = slope_max ∷ slope_max ∷ reach_max ∷ reach_max ∷ index_max ∷ []

abbrev at : Expr
at = var 1 ⊗ var 4 ⊕ var 2

abbrev es : List Expr
es = var 0 ∷ at ∷ var 3 ∷ []

-- the slab's numbers, and the one on the other axis
abbrev ρ : Inside → ℕ → List ℤ
ρ s k = s.a ∷ s.b ∷ s.c ∷ s.reach ∷ pos k ∷ []

pub returns : goal.returns
returns c =
    let a = c.args in
    let s = c.self.inside in
    let f = c.self.invariant in
    let h : Withins bs (ρ s a.at) = (f.a, (f.b, (f.c, (f.reach, (record { within = c.requires.across }, tt))))) in
    let found = learnt (ρ s a.at) (λ l. Narrows a.run (in_slab (nth l 0) (nth l 1) (nth l 2)) c.by_slab.result) es bs tt h c.by_slab.ensures in
    subst (λ (f : Form). Narrows a.run (slab_along f a.at) c.by_slab.result) c.self.view_is
    (by-same (λ j. ap (λ (z : ℤ). le_z (pos 0) z && le_z z s.reach) (sym (+ℤ_assoc (s.a *ℤ pos j) (s.b *ℤ pos a.at) s.c))) found)
