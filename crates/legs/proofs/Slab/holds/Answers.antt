-- `legs::Slab::holds`: the form is compared with the reach, then with 0.
use mathlib.Core.Bool.{and-true}
use Rattle.std.proofs.Math.Bool.{and-false}
use mathlib.Core.List.{List, [], ◌∷◌}
use mathlib.Core.Path.{◌≡◌, ◌∙◌, sym, ap, subst}
use Prim.Native.Nat.{ℕ}
use lib.IntN.{ℤ, pos}
use lib.Signed.{le_z}
use Rattle.integers.specs.Within.{Within, Withins}
use Rattle.integers.proofs.Expr.{Expr, var, ◌⊕◌, ◌⊗◌}
use Rattle.integers.proofs.Machine.{Asks, asks, run, mach, tested}
use Rattle.geometry.specs.Bounds.{index_max}
use Rattle.runs.specs.Run.{slope_max, reach_max}
use Rattle.legs.specs.declared.Slab.TheInside.{Inside}
use Rattle.legs.specs.Form.{Form, BoundedForm}
use Rattle.legs.specs.Slab.{form_of, slab_holds}
use Rattle.legs.proofs.Slab.holds.Goals as goal

abbrev bs : List ℕ
bs = slope_max ∷ slope_max ∷ reach_max ∷ reach_max ∷ index_max ∷ index_max ∷ []

abbrev form : Expr
form = var 0 ⊗ var 4 ⊕ var 1 ⊗ var 5 ⊕ var 2

abbrev ρ : Form → (i j : ℤ) → List ℤ
ρ s i j = s.a ∷ s.b ∷ s.c ∷ s.reach ∷ i ∷ j ∷ []

-- the slab by its fields
abbrev fields : Inside → Form
fields s = record { a = s.a; b = s.b; c = s.c; reach = s.reach }

module _ {s : Form} {i j : ℤ} (f : BoundedForm s) (p : Within index_max i × Within index_max j) where
  ins : Withins bs (ρ s i j)
  ins = (f.a, (f.b, (f.c, (f.reach, (p.0, (p.1, tt))))))

  needed : Asks (ρ s i j) form
  needed = asks (ρ s i j) form bs tt ins

pub overflow_add-x : goal.overflow_add-x
overflow_add-x c = (needed c.self.invariant c.requires).0.2

pub overflow_add-x-2 : goal.overflow_add-x-2
overflow_add-x-2 c = (needed c.self.invariant c.requires).2

-- the test of the near side, last in the code and first in the definition
pub returns-then-x-self : goal.returns-then-x-self
returns-then-x-self c =
    let a = c.args in
    let s = fields c.self.inside in
    let r = ρ s a.i a.j in
    let h = ins c.self.invariant c.requires in
    subst (λ (f : Form). le_z (pos 0) (mach r form) ≡ slab_holds f a.i a.j) c.self.view_is
    (ap (le_z (pos 0)) (run r form bs tt h) ∙ rw (tested r le_z form (var 3) bs tt h c.if-x-self.true) (sym (and-true (le_z (pos 0) (form_of s a.i a.j)))))

pub returns-else-x-self : goal.returns-else-x-self
returns-else-x-self c =
    let a = c.args in
    let s = fields c.self.inside in
    let r = ρ s a.i a.j in
    subst (λ (f : Form). le_z (mach r form) (mach r (var 3)) ≡ slab_holds f a.i a.j) c.self.view_is
    (c.if-x-self.false ∙ rw (tested r le_z form (var 3) bs tt (ins c.self.invariant c.requires) c.if-x-self.false) (sym (and-false (le_z (pos 0) (form_of s a.i a.j)))))
