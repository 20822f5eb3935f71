-- `legs::Slab::rising`: each value is an expression over the parameters and what a call gave.
use mathlib.Core.List.{List, [], ◌∷◌}
use mathlib.Core.Path.{◌≡◌, ◌∙◌, ap, sym, subst}
use Prim.Native.Nat.{ℕ, zero-le}
use lib.IntN.{ℤ, pos, nat_abs, ◌-ℤ◌, ◌*ℤ◌}
use mir.Syntax.{w64}
use mir.Val.{to_z, of_z}
use Rattle.integers.specs.Within.{Withins}
use Rattle.std.specs.Prelude.{unsigned_abs}
use Rattle.std.specs.Int.{int_max}
use Rattle.integers.proofs.Omega.{zarith}
use Rattle.integers.proofs.Expr.{Expr, var, neg, ◌⊖◌, ◌⊗◌}
use Rattle.integers.proofs.Machine.{Asks, asks, run, mach}
use Rattle.integers.proofs.MinMax.{within-max, max! }
use Rattle.geometry.specs.Bounds.{offset_max}
use Rattle.legs.specs.Form.{Form, BoundedForm}
use Rattle.legs.specs.Slab.{rising_slab, slab_bounds}
use Rattle.legs.proofs.Sizes.{rising-bounded}
use Rattle.legs.proofs.Slab.rising.Goals as goal
use Rattle.legs.proofs.Slab.rising.Goals.{After-abs}

max-comm : (a b : ℤ) → int_max a b ≡ int_max b a
max-comm a b = omega (zarith, max! a b, max! b a)

-- a call's result, and the parameters
abbrev bs : List ℕ
bs = offset_max ∷ slab_bounds

abbrev constant : Expr
constant = var 6 ⊗ (var 0 ⊖ var 2) ⊖ (var 1 ⊗ var 4 ⊖ var 2 ⊗ var 3)

abbrev reach : Expr
reach = var 6 ⊗ (var 0 ⊖ var 2)

abbrev along : Expr
along = neg (var 5 ⊗ var 2)

module _ {ea eb va vb step extent : ℤ} (h : Withins slab_bounds (ea ∷ eb ∷ va ∷ vb ∷ step ∷ extent ∷ [])) where
  abbrev ρ : List ℤ
  ρ = ea ∷ eb ∷ va ∷ vb ∷ step ∷ extent ∷ []

  -- ---- the constant, where m is the greater of ea and 0
  module _ {m : ℤ} (e : m ≡ int_max (to_z w64 (of_z w64 ea)) (pos 0)) where
    max-is : m ≡ int_max (pos 0) ea
    max-is = e ∙ ap (λ (z : ℤ). int_max z (pos 0)) (run ρ (var 0) slab_bounds tt h) ∙ max-comm ea (pos 0)

    ins-m : Withins bs (m ∷ ρ)
    ins-m = (rw max-is (within-max (pos 0) ea (record { within = zero-le }) h.0), h)

    needed : Asks (m ∷ ρ) constant
    needed = asks (m ∷ ρ) constant bs tt ins-m

  -- ---- the reach and the slopes, where s is the size of ea
  module _ {s : ℤ} (e : s ≡ pos (unsigned_abs (to_z w64 (of_z w64 ea)))) where
    size_is : s ≡ pos (nat_abs ea)
    size_is = e ∙ ap (λ (z : ℤ). pos (nat_abs z)) (run ρ (var 0) slab_bounds tt h)

    ins-r : Withins bs (s ∷ ρ)
    ins-r = (rw size_is (record { within = h.0.within }), h)

-- the fields as they are computed
abbrev fields : After-abs → Form
fields c =
    let a = c.args in
    let r = a.ea ∷ a.eb ∷ a.va ∷ a.vb ∷ a.step ∷ a.extent ∷ [] in
    let s = c.abs.result ∷ r in
    record { a = mach s along; b = mach s (var 5 ⊗ var 1); c = mach (c.max.result ∷ r) constant; reach = mach s reach }

pub overflow_mul-c : goal.overflow_mul-c
overflow_mul-c c = (needed c.requires.0 c.max.ensures.value).0.2

pub overflow_mul-c-2 : goal.overflow_mul-c-2
overflow_mul-c-2 c = (needed c.requires.0 c.max.ensures.value).1.0.2

pub overflow_mul-c-3 : goal.overflow_mul-c-3
overflow_mul-c-3 c = (needed c.requires.0 c.max.ensures.value).1.1.2

pub overflow_sub-c-2 : goal.overflow_sub-c-2
overflow_sub-c-2 c = (needed c.requires.0 c.max.ensures.value).1.2

pub overflow_sub-c-3 : goal.overflow_sub-c-3
overflow_sub-c-3 c = (needed c.requires.0 c.max.ensures.value).2

pub overflow_mul-reach : goal.overflow_mul-reach
overflow_mul-reach c =
    let a = c.args in
    (asks (c.abs.result ∷ a.ea ∷ a.eb ∷ a.va ∷ a.vb ∷ a.step ∷ a.extent ∷ []) reach bs tt (ins-r c.requires.0 c.abs.ensures.value)).2

pub overflow_mul-result : goal.overflow_mul-result
overflow_mul-result c =
    let a = c.args in
    (asks (c.abs.result ∷ a.ea ∷ a.eb ∷ a.va ∷ a.vb ∷ a.step ∷ a.extent ∷ []) along bs tt (ins-r c.requires.0 c.abs.ensures.value)).0.2

pub overflow_sub-result : goal.overflow_sub-result
overflow_sub-result c =
    let a = c.args in
    (asks (c.abs.result ∷ a.ea ∷ a.eb ∷ a.va ∷ a.vb ∷ a.step ∷ a.extent ∷ []) along bs tt (ins-r c.requires.0 c.abs.ensures.value)).1

pub overflow_mul-result-2 : goal.overflow_mul-result-2
overflow_mul-result-2 c =
    let a = c.args in
    (asks (c.abs.result ∷ a.ea ∷ a.eb ∷ a.va ∷ a.vb ∷ a.step ∷ a.extent ∷ []) (var 5 ⊗ var 1) bs tt (ins-r c.requires.0 c.abs.ensures.value)).2

-- the fields, as they are computed, are those of the definition
is : (c : After-abs) → fields c ≡ rising_slab c.args.ea c.args.eb c.args.va c.args.vb c.args.step c.args.extent
is c =
    let a = c.args in
    let r = a.ea ∷ a.eb ∷ a.va ∷ a.vb ∷ a.step ∷ a.extent ∷ [] in
    let m = c.max.result ∷ r in
    let s = c.abs.result ∷ r in
    let h = ins-r c.requires.0 c.abs.ensures.value in
    λ i. record {
      a = run s along bs tt h i;
      b = run s (var 5 ⊗ var 1) bs tt h i;
      c =
          (run m constant bs tt (ins-m c.requires.0 c.max.ensures.value)
          ∙ ap (λ (z : ℤ). a.extent *ℤ (z -ℤ a.eb) -ℤ (a.ea *ℤ a.vb -ℤ a.eb *ℤ a.va)) (max-is c.requires.0 c.max.ensures.value)) i;
      reach = (run s reach bs tt h ∙ ap (λ (z : ℤ). a.extent *ℤ (z -ℤ a.eb)) (size_is c.requires.0 c.abs.ensures.value)) i;
    }

pub invariant_of-result : goal.invariant_of-result
invariant_of-result c =
    let h = c.requires.0 in
    subst BoundedForm (sym (is c)) (rising-bounded c.requires.1 h.1.1.1.1.0 h.1.1.1.1.1.0 h.1.1.0 h.1.1.1.0 h.0 h.1.0 c.requires.2)

pub returns : goal.returns
returns c = is c
