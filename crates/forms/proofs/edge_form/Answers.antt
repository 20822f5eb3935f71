-- `forms::edge_form`. Each value is an expression over the parameters and what the calls gave.
use mathlib.Core.List.{List, [], ◌∷◌}
use mathlib.Core.Path.{◌≡◌, ◌∙◌, ap, ap₂}
use Prim.Native.Nat.{ℕ}
use lib.IntN.{ℤ, pos, neg_ℤ, ◌*ℤ◌}
use mir.Facts.{to_z-of_z}
use Rattle.integers.specs.Within.{Withins}
use Rattle.std.specs.Int.{int_max}
use Rattle.integers.proofs.Expr.{Expr, var, neg, ◌⊕◌, ◌⊖◌, ◌⊗◌, eval}
use Rattle.integers.proofs.Machine.{Asks, asks, run}
use Rattle.integers.proofs.Bounds.{within-neg}
use Rattle.integers.proofs.MinMax.{within-max}
use Rattle.geometry.specs.Bounds.{difference_max, each}
use Rattle.overlap.specs.Rule.{turned}
use Rattle.forms.specs.Triangle.{edge_form, edge_bounds}
use Rattle.forms.proofs.Sizes.{max-swap, within-turned, within-zero}
use Rattle.forms.proofs.edge_form.Goals as goal
use Rattle.forms.proofs.edge_form.Goals.{After-max-up_a, After-max-up_b, After-turned-ma, After-turned-mb, Start}

-- the parameters
abbrev ρ : Start → List ℤ
ρ c = let a = c.args in a.ea ∷ a.eb ∷ a.va ∷ a.vb ∷ a.step ∷ a.extent ∷ []

-- m, and the parameters
a-is : (c : After-turned-ma) → c.turned-ma.result ≡ turned c.before.args.n (neg_ℤ c.before.args.eb)
a-is c = let s = c.before in c.turned-ma.ensures ∙ ap₂ turned (to_z-of_z s.ranges.n) (run (ρ s) (neg (var 1)) edge_bounds tt s.requires)

b-is : (c : After-turned-mb) → c.turned-mb.result ≡ turned c.before.before.args.n c.before.before.args.ea
b-is c = let s = c.before.before in c.turned-mb.ensures ∙ ap₂ turned (to_z-of_z s.ranges.n) (run (ρ s) (var 0) edge_bounds tt s.requires)

abbrev ρm : After-turned-mb → List ℤ
ρm c = c.before.turned-ma.result ∷ c.turned-mb.result ∷ ρ c.before.before

abbrev bm : List ℕ
bm = each difference_max 2 edge_bounds

ins-m : (c : After-turned-mb) → Withins bm (ρm c)
ins-m c =
    let s = c.before.before in
    let n = s.args.n in
    (rw (a-is c.before) (within-turned n (within-neg s.requires.1.0)), (rw (b-is c) (within-turned n s.requires.0), s.requires))

-- how far a square reaches along m on each axis, m, and the parameters
up-a : (c : After-max-up_a) → c.max-up_a.result ≡ int_max (pos 0) c.before.before.turned-ma.result
up-a c = c.max-up_a.ensures.value ∙ ap (λ (z : ℤ). int_max z (pos 0)) (run (ρm c.before) (var 0) bm tt (ins-m c.before)) ∙ max-swap c.turned-ma.result (pos 0)

up-b : (c : After-max-up_b) → c.max-up_b.result ≡ int_max (pos 0) c.before.before.turned-mb.result
up-b c = let m = c.before.before in c.max-up_b.ensures.value ∙ ap (λ (z : ℤ). int_max z (pos 0)) (run (ρm m) (var 1) bm tt (ins-m m)) ∙ max-swap c.turned-mb.result (pos 0)

abbrev ρr : After-max-up_b → List ℤ
ρr c = c.before.max-up_a.result ∷ c.max-up_b.result ∷ ρm c.before.before

abbrev br : List ℕ
br = each difference_max 2 bm

ins-r : (c : After-max-up_b) → Withins br (ρr c)
ins-r c =
    let m = c.before.before in
    let h = ins-m m in
    (rw (up-a c.before) (within-max _ _ within-zero h.0), (rw (up-b c) (within-max _ _ within-zero h.1.0), h))

abbrev e : Expr
e = var 9 ⊗ (var 0 ⊕ var 1) ⊖ (var 2 ⊗ var 6 ⊕ var 3 ⊗ var 7)

needed : (c : After-max-up_b) → Asks (ρr c) e
needed c = asks (ρr c) e br tt (ins-r c)

constant : (c : After-max-up_b) → let a = c.before.before.before.before.args in
    eval (ρr c) e ≡ (edge_form a.n a.ea a.eb a.va a.vb a.step a.extent).c
constant c = let m = c.before.before in rw (up-a c.before, up-b c, a-is m.before, b-is m)

pub returns : goal.returns
returns c =
    let m = c.before.before in
    let h = ins-r c in
    λ i. record {
      a = (run (ρr c) (var 8 ⊗ var 2) br tt h ∙ ap (λ (z : ℤ). m.before.before.args.step *ℤ z) (a-is m.before)) i;
      b = (run (ρr c) (var 8 ⊗ var 3) br tt h ∙ ap (λ (z : ℤ). m.before.before.args.step *ℤ z) (b-is m)) i;
      c = (run (ρr c) e br tt h ∙ constant c) i;
    }

pub overflow_add-c : goal.overflow_add-c
overflow_add-c c = (needed c).0.1.2

pub overflow_mul-c : goal.overflow_mul-c
overflow_mul-c c = (needed c).0.2

pub overflow_mul-c-2 : goal.overflow_mul-c-2
overflow_mul-c-2 c = (needed c).1.0.2

pub overflow_mul-c-3 : goal.overflow_mul-c-3
overflow_mul-c-3 c = (needed c).1.1.2

pub overflow_add-c-2 : goal.overflow_add-c-2
overflow_add-c-2 c = (needed c).1.2

pub overflow_sub-c : goal.overflow_sub-c
overflow_sub-c c = (needed c).2

pub overflow_mul-result : goal.overflow_mul-result
overflow_mul-result c = (asks (ρr c) (var 8 ⊗ var 2) br tt (ins-r c)).2

pub overflow_mul-result-2 : goal.overflow_mul-result-2
overflow_mul-result-2 c = (asks (ρr c) (var 8 ⊗ var 3) br tt (ins-r c)).2
