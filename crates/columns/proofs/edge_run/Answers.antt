-- `columns::edge_run`: the square is inside of the edge, or the edge's two other forms narrow the run.
use mathlib.Core.Bool.{Bool, ◌&&◌, ◌||◌}
use mathlib.Core.List.{List, [], ◌∷◌}
use mathlib.Core.Path.{◌≡◌, ◌∙◌, ap, sym}
use Prim.Native.Nat.{ℕ, ◌≤◌}
use native.Mathlib.Omega.{arith}
use lib.Dec.{lit<, lit≤}
use lib.IntN.{ℤ, ◌+ℤ◌, ◌*ℤ◌}
use lib.Signed.{le_z}
use mir.Syntax.{w64}
use mir.Val.{to_z, of_z}
use mir.Facts.{to_z-of_z}
use Rattle.integers.specs.Within.{Within, Withins}
use Rattle.integers.proofs.Bounds.{within-weaken, within-fits}
use Rattle.integers.proofs.Expr.{Expr, var, ◌⊕◌, ◌⊗◌, nth}
use Rattle.integers.proofs.Machine.{Asks, asks, bound, learnt, asked}
use Rattle.geometry.specs.Bounds.{index_max}
use Rattle.grid.specs.declared.CellRange.{CellRange}
use Rattle.forms.specs.declared.Edge.{Edge}
use Rattle.forms.specs.declared.EdgeForm.{EdgeForm}
use Rattle.forms.specs.Form.{edge_slope_max, edge_max, BoundedForm}
use Rattle.runs.specs.Run.{Stepping, Narrows, passes}
use Rattle.runs.proofs.Narrow.{by_both, by-same}
use Rattle.columns.proofs.edge_run.Goals as goal

-- a number, as the machine reads it back
abbrev m : ℤ → ℤ
m z = to_z w64 (of_z w64 z)

-- ---- a form along a column: its coefficient there, another coefficient, the constant, and the column's number for the other
abbrev bs : List ℕ
bs = edge_slope_max ∷ edge_slope_max ∷ edge_max ∷ index_max ∷ []

abbrev e : Expr
e = var 1 ⊗ var 3 ⊕ var 2

module _ (step other at n : ℤ) (ins : Withins bs (step ∷ other ∷ at ∷ n ∷ [])) where
  abbrev ρ : List ℤ
  ρ = step ∷ other ∷ at ∷ n ∷ []

  fits : Asks ρ e
  fits = asks ρ e bs tt ins

  stepping : {first end : ℕ} → first ≤ end → end ≤ 64 → Stepping first end (m step) (m (m (m other *ℤ m n) +ℤ m at))
  stepping {first} {end} o h =
      asked ρ (λ l. Stepping first end (nth l 0) (nth l 1)) (var 0 ∷ e ∷ []) bs tt ins
      (record { ordered = o; most = h; slope = within-weaken (lit≤ tt) ins.0; constant = within-weaken (lit≤ tt) (bound ρ e bs ins) })

  narrowed : {run r : CellRange} → Narrows run (passes (m step) (m (m (m other *ℤ m n) +ℤ m at))) r → Narrows run (passes step (other *ℤ n +ℤ at)) r
  narrowed {run} {r} h = learnt ρ (λ l. Narrows run (passes (nth l 0) (nth l 1)) r) (var 0 ∷ e ∷ []) bs tt ins h

-- along v, and along u
first : {f : EdgeForm} {v : ℤ} → BoundedForm f → Within index_max v → Withins bs (f.b ∷ f.a ∷ f.c ∷ v ∷ [])
first h k = (h.b, (h.a, (h.c, (k, tt))))

second : {f : EdgeForm} {u : ℤ} → BoundedForm f → Within index_max u → Withins bs (f.a ∷ f.b ∷ f.c ∷ u ∷ [])
second h k = (h.a, (h.b, (h.c, (k, tt))))

-- the test of the square
abbrev others : Edge → (u v : ℤ) → ℕ → Bool
others edge u v k = passes edge.vw.b (edge.vw.a *ℤ v +ℤ edge.vw.c) k && passes edge.wu.a (edge.wu.b *ℤ u +ℤ edge.wu.c) k

tested : (edge : Edge) (u v x : ℤ) {y z : ℤ} {t : Bool} → y ≡ edge.inside → z ≡ x → le_z y z ≡ t → (k : ℕ) → (le_z edge.inside x || others edge u v k) ≡ (t || others edge u v k)
tested edge u v x is at e k = ap (λ (b : Bool). b || others edge u v k) (sym (λ i. le_z (is i) (at i)) ∙ e)

pub overflow_mul-e : goal.overflow_mul-e
overflow_mul-e c = let f = c.args.e.now.vw in let (p, q) = c.requires in (fits f.b f.a f.c c.args.v (first p.vw q.v-in)).0.2

pub overflow_add-e : goal.overflow_add-e
overflow_add-e c = let f = c.args.e.now.vw in let (p, q) = c.requires in (fits f.b f.a f.c c.args.v (first p.vw q.v-in)).2

pub by_form-half-requires : goal.by_form-half-requires
by_form-half-requires c = let f = c.args.e.now.vw in let (p, q) = c.requires in stepping f.b f.a f.c c.args.v (first p.vw q.v-in) q.ordered q.most

pub overflow_mul-e-2 : goal.overflow_mul-e-2
overflow_mul-e-2 c = let f = c.args.e.now.wu in let (p, q) = c.requires in (fits f.a f.b f.c c.args.u (second p.wu q.u-in)).0.2

pub overflow_add-e-2 : goal.overflow_add-e-2
overflow_add-e-2 c = let f = c.args.e.now.wu in let (p, q) = c.requires in (fits f.a f.b f.c c.args.u (second p.wu q.u-in)).2

pub by_form-requires : goal.by_form-requires
by_form-requires c =
    let f = c.args.e.now.wu in
    let (p, q) = c.requires in
    let h = c.by_form-half.ensures in
    stepping f.a f.b f.c c.args.u (second p.wu q.u-in) h.ordered (omega (arith, q.most, h.to))

pub returns : goal.returns
returns c =
    let a = c.args in
    let f = a.e.now.vw in
    let g = a.e.now.wu in
    let (p, q) = c.requires in
    by-same
    (λ k. sym (tested a.e.now a.u a.v a.x (to_z-of_z {w = w64} (within-fits (lit< tt) p.inside)) (to_z-of_z c.ranges.x) c.if-e-x.false k))
    (by_both (narrowed f.b f.a f.c a.v (first p.vw q.v-in) c.by_form-half.ensures) (narrowed g.a g.b g.c a.u (second p.wu q.u-in) c.by_form.ensures))
