-- `columns::plane_run`: the plane's numbers are handed on.
use mathlib.Core.List.{List, [], ◌∷◌}
use Prim.Native.Nat.{ℕ, ◌≤◌}
use lib.Dec.{lit≤}
use lib.IntN.{ℤ}
use Rattle.integers.specs.Within.{Withins}
use Rattle.integers.proofs.Bounds.{within-weaken}
use Rattle.integers.proofs.Expr.{Expr, var, ◌⊕◌, ◌⊗◌, nth}
use Rattle.integers.proofs.Machine.{Asks, asks, bound, learnt, asked}
use Rattle.geometry.specs.Bounds.{index_max}
use Rattle.grid.specs.declared.CellRange.{CellRange}
use Rattle.forms.specs.declared.PlaneForm.{PlaneForm}
use Rattle.forms.specs.Form.{plane_max, BoundedPlane}
use Rattle.runs.specs.Run.{slope_max, reach_max, Narrows, in_slab, SlabReady}
use Rattle.columns.specs.Column.{RunIn}
use Rattle.columns.proofs.plane_run.Goals as goal

abbrev bs : List ℕ
bs = slope_max ∷ slope_max ∷ slope_max ∷ plane_max ∷ reach_max ∷ index_max ∷ index_max ∷ []

abbrev e : Expr
e = var 3 ⊕ var 0 ⊗ var 5 ⊕ var 1 ⊗ var 6

abbrev es : List Expr
es = var 2 ∷ e ∷ var 4 ∷ []

-- the plane, and the column's numbers
abbrev ρ : PlaneForm → (u v : ℤ) → List ℤ
ρ f u v = f.u ∷ f.v ∷ f.w ∷ f.at ∷ f.reach ∷ u ∷ v ∷ []

module _ {f : PlaneForm} {w : CellRange} {hint : ℕ} {u v : ℤ} (p : BoundedPlane f × RunIn w u v × (w.first ≤ hint) × (hint ≤ w.end)) where
  ins : Withins bs (ρ f u v)
  ins = let (p, q, _, _) = p in (p.u, (p.v, (p.w, (p.at, (p.reach, (q.u-in, (q.v-in, tt)))))))

  needed : Asks (ρ f u v) e
  needed = asks (ρ f u v) e bs tt ins

pub overflow_mul-p : goal.overflow_mul-p
overflow_mul-p c = (needed c.requires).0.1.2

pub overflow_add-p : goal.overflow_add-p
overflow_add-p c = (needed c.requires).0.2

pub overflow_mul-p-2 : goal.overflow_mul-p-2
overflow_mul-p-2 c = (needed c.requires).1.2

pub overflow_add-p-2 : goal.overflow_add-p-2
overflow_add-p-2 c = (needed c.requires).2

pub by_slab-requires : goal.by_slab-requires
by_slab-requires c =
    let a = c.args in
    let (p, q, low, high) = c.requires in
    let x = ρ a.p.now a.u a.v in
    let h = ins c.requires in
    asked x (λ l. SlabReady a.w a.hint (nth l 0) (nth l 1) (nth l 2)) es bs tt h
    (record { low = low; high = high; most = q.most; rises = p.rises; slope = p.w; constant = within-weaken (lit≤ tt) (bound x e bs h); thick = p.reach })

pub returns : goal.returns
returns c =
    let a = c.args in
    learnt (ρ a.p.now a.u a.v) (λ l. Narrows a.w (in_slab (nth l 0) (nth l 1) (nth l 2)) c.by_slab.result) es bs tt (ins c.requires) c.by_slab.ensures
