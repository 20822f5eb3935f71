-- `forms::plane_form`. Each value is an expression over the parameters and what the calls gave.
use mathlib.Core.List.{List, [], ◌∷◌}
use mathlib.Core.Path.{◌≡◌, ◌∙◌, ap, ap₂}
use Prim.Native.Nat.{ℕ}
use lib.IntN.{ℤ, pos, nat_abs, ◌+ℤ◌, ◌-ℤ◌, ◌*ℤ◌}
use Rattle.integers.specs.Within.{Withins}
use Rattle.std.specs.Int.{int_max}
use Rattle.integers.proofs.Expr.{Expr, var, ◌⊕◌, ◌⊖◌, ◌⊗◌, eval}
use Rattle.integers.proofs.Machine.{Asks, mach, asks, run}
use Rattle.integers.proofs.MinMax.{within-max}
use Rattle.geometry.specs.Bounds.{normal_max, offset_max, step_max, extent_max, each}
use Rattle.overlap.specs.Rule.{turned}
use Rattle.forms.specs.Triangle.{plane_form}
use Rattle.forms.proofs.Sizes.{max-swap, within-turned, within-zero, within-size, turned-negates}
use Rattle.forms.proofs.plane_form.Goals as goal
use Rattle.forms.proofs.plane_form.Goals.{After-abs-size_y}

abbrev bs : List ℕ
bs = each normal_max 3 (each offset_max 3 (step_max ∷ extent_max ∷ []))

abbrev bm : List ℕ
bm = each normal_max 3 bs

abbrev br : List ℕ
br = each normal_max 4 bm

module _ (c : After-abs-size_y) where
  -- the parameters; the turned normal before them; and before it the greater of 0 and a component, and its magnitude
  abbrev ρ : List ℤ
  ρ = let a = c.args in a.n.x ∷ a.n.y ∷ a.n.z ∷ a.v.x ∷ a.v.y ∷ a.v.z ∷ a.step ∷ a.extent ∷ []

  abbrev ρm : List ℤ
  ρm = c.turned-mx.result ∷ c.turned-my.result ∷ c.turned-mz.result ∷ ρ

  abbrev ρr : List ℤ
  ρr = c.max-up_x.result ∷ c.max-up_y.result ∷ c.abs-size_x.result ∷ c.abs-size_y.result ∷ ρm

  ins : Withins bs ρ
  ins = let (n, v, step, extent) = c.requires in (n.x, (n.y, (n.z, (v.x, (v.y, (v.z, (step, (extent, tt))))))))

  -- what the calls gave
  got : (e : Expr) {r : ℤ} → r ≡ turned (mach ρ (var 2)) (mach ρ e) → mach ρ e ≡ eval ρ e → r ≡ turned c.args.n.z (eval ρ e)
  got e q k = q ∙ ap₂ turned (run ρ (var 2) bs tt ins) k

  x-is : c.turned-mx.result ≡ turned c.args.n.z c.args.n.x
  x-is = got (var 0) c.turned-mx.ensures (run ρ (var 0) bs tt ins)

  y-is : c.turned-my.result ≡ turned c.args.n.z c.args.n.y
  y-is = got (var 1) c.turned-my.ensures (run ρ (var 1) bs tt ins)

  z-is : c.turned-mz.result ≡ turned c.args.n.z c.args.n.z
  z-is = got (var 2) c.turned-mz.ensures (run ρ (var 2) bs tt ins)

  ins-m : Withins bm ρm
  ins-m =
      let n = c.args.n.z in
      let (h, _, _, _) = c.requires in
      (rw x-is (within-turned n h.x), (rw y-is (within-turned n h.y), (rw z-is (within-turned n h.z), ins)))

  up : (e : Expr) {r : ℤ} → r ≡ int_max (mach ρm e) (pos 0) → mach ρm e ≡ eval ρm e → r ≡ int_max (pos 0) (eval ρm e)
  up e q k = q ∙ ap (λ (z : ℤ). int_max z (pos 0)) k ∙ max-swap (eval ρm e) (pos 0)

  up-x : c.max-up_x.result ≡ int_max (pos 0) c.turned-mx.result
  up-x = up (var 0) c.max-up_x.ensures.value (run ρm (var 0) bm tt ins-m)

  up-y : c.max-up_y.result ≡ int_max (pos 0) c.turned-my.result
  up-y = up (var 1) c.max-up_y.ensures.value (run ρm (var 1) bm tt ins-m)

  abbrev size : ℤ → ℤ
  size z = pos (nat_abs z)

  size-x : c.abs-size_x.result ≡ size c.turned-mx.result
  size-x = c.abs-size_x.ensures.value ∙ ap size (run ρm (var 0) bm tt ins-m)

  size-y : c.abs-size_y.result ≡ size c.turned-my.result
  size-y = c.abs-size_y.ensures.value ∙ ap size (run ρm (var 1) bm tt ins-m)

  ins-r : Withins br ρr
  ins-r =
      let h = ins-m in (
        rw up-x (within-max _ _ within-zero h.0),
        (rw up-y (within-max _ _ within-zero h.1.0), (rw size-x (within-size h.0), (rw size-y (within-size h.1.0), h))),
      )

  -- the form's numbers
  abbrev at : Expr
  at = var 14 ⊗ (var 0 ⊕ var 1 ⊕ var 6) ⊖ (var 4 ⊗ var 10 ⊕ var 5 ⊗ var 11 ⊕ var 6 ⊗ var 12)

  abbrev reach : Expr
  reach = var 14 ⊗ (var 2 ⊕ var 3 ⊕ var 6)

  at-needed : Asks ρr at
  at-needed = asks ρr at br tt ins-r

  reach-needed : Asks ρr reach
  reach-needed = asks ρr reach br tt ins-r

  at-is : eval ρr at ≡ (plane_form c.args.n c.args.v c.args.step c.args.extent).at
  at-is =
      let a = c.args in
      let ux = up-x ∙ ap (int_max (pos 0)) x-is in
      let uy = up-y ∙ ap (int_max (pos 0)) y-is in
      λ i. a.extent *ℤ (ux i +ℤ uy i +ℤ z-is i) -ℤ (x-is i *ℤ a.v.x +ℤ y-is i *ℤ a.v.y +ℤ z-is i *ℤ a.v.z)

  reach-is : eval ρr reach ≡ (plane_form c.args.n c.args.v c.args.step c.args.extent).reach
  reach-is =
      let x = size-x ∙ ap size x-is in
      let y = size-y ∙ ap size y-is in
      λ i. c.args.extent *ℤ (x i +ℤ y i +ℤ z-is i)

pub abs-size_x-requires : goal.abs-size_x-requires
abs-size_x-requires c = turned-negates c.args.n.z c.requires.0.x c.turned-mx.ensures

pub abs-size_y-requires : goal.abs-size_y-requires
abs-size_y-requires c = turned-negates c.args.n.z c.requires.0.y c.turned-my.ensures

pub returns : goal.returns
returns c =
    let h = ins-r c in
    let s = c.args.step in
    λ i. record {
      u = (run (ρr c) (var 13 ⊗ var 4) br tt h ∙ ap (λ (z : ℤ). s *ℤ z) (x-is c)) i;
      v = (run (ρr c) (var 13 ⊗ var 5) br tt h ∙ ap (λ (z : ℤ). s *ℤ z) (y-is c)) i;
      w = (run (ρr c) (var 13 ⊗ var 6) br tt h ∙ ap (λ (z : ℤ). s *ℤ z) (z-is c)) i;
      at = (run (ρr c) (at c) br tt h ∙ at-is c) i;
      reach = (run (ρr c) (reach c) br tt h ∙ reach-is c) i;
    }

pub overflow_add-at : goal.overflow_add-at
overflow_add-at c = (at-needed c).0.1.0.2

pub overflow_add-at-2 : goal.overflow_add-at-2
overflow_add-at-2 c = (at-needed c).0.1.2

pub overflow_mul-at : goal.overflow_mul-at
overflow_mul-at c = (at-needed c).0.2

pub overflow_mul-at-2 : goal.overflow_mul-at-2
overflow_mul-at-2 c = (at-needed c).1.0.0.2

pub overflow_mul-at-3 : goal.overflow_mul-at-3
overflow_mul-at-3 c = (at-needed c).1.0.1.2

pub overflow_add-at-3 : goal.overflow_add-at-3
overflow_add-at-3 c = (at-needed c).1.0.2

pub overflow_mul-at-4 : goal.overflow_mul-at-4
overflow_mul-at-4 c = (at-needed c).1.1.2

pub overflow_add-at-4 : goal.overflow_add-at-4
overflow_add-at-4 c = (at-needed c).1.2

pub overflow_sub-at : goal.overflow_sub-at
overflow_sub-at c = (at-needed c).2

pub overflow_add-reach : goal.overflow_add-reach
overflow_add-reach c = (reach-needed c).1.0.2

pub overflow_add-reach-2 : goal.overflow_add-reach-2
overflow_add-reach-2 c = (reach-needed c).1.2

pub overflow_mul-reach : goal.overflow_mul-reach
overflow_mul-reach c = (reach-needed c).2

pub overflow_mul-result : goal.overflow_mul-result
overflow_mul-result c = (asks (ρr c) (var 13 ⊗ var 4) br tt (ins-r c)).2

pub overflow_mul-result-2 : goal.overflow_mul-result-2
overflow_mul-result-2 c = (asks (ρr c) (var 13 ⊗ var 5) br tt (ins-r c)).2

pub overflow_mul-result-3 : goal.overflow_mul-result-3
overflow_mul-result-3 c = (asks (ρr c) (var 13 ⊗ var 6) br tt (ins-r c)).2
