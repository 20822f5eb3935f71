-- `forms::EdgeForm::at`: a value of small numbers is one expression over them, and small.
use Rattle.std.proofs.Common.{ℕ, List, [], ◌∷◌, ℤ}
use lib.Dec.{lit≤}
use Rattle.integers.specs.Within.{Within, Withins}
use Rattle.integers.proofs.Bounds.{within-weaken}
use Rattle.integers.proofs.Expr.{Expr, var, ◌⊕◌, ◌⊗◌}
use Rattle.integers.proofs.Machine.{Asks, asks, run, bound}
use Rattle.geometry.specs.Bounds.{index_max}
use Rattle.forms.specs.declared.EdgeForm.{EdgeForm}
use Rattle.forms.specs.Form.{edge_slope_max, edge_max, BoundedForm}
use Rattle.forms.proofs.EdgeForm.at.Goals as goal

abbrev bs : List ℕ
bs = edge_slope_max ∷ edge_slope_max ∷ edge_max ∷ index_max ∷ index_max ∷ []

abbrev e : Expr
e = var 0 ⊗ var 3 ⊕ var 1 ⊗ var 4 ⊕ var 2

abbrev ρ : EdgeForm → (i j : ℤ) → List ℤ
ρ f i j = f.a ∷ f.b ∷ f.c ∷ i ∷ j ∷ []

module _ {f : EdgeForm} {i j : ℤ} (p : BoundedForm f × Within index_max i × Within index_max j) where
  ins : Withins bs (ρ f i j)
  ins = let (h, k, l) = p in (h.a, (h.b, (h.c, (k, (l, tt)))))

  needed : Asks (ρ f i j) e
  needed = asks (ρ f i j) e bs tt ins

pub overflow_mul-result : goal.overflow_mul-result
overflow_mul-result c = (needed c.requires).0.0.2

pub overflow_mul-result-2 : goal.overflow_mul-result-2
overflow_mul-result-2 c = (needed c.requires).0.1.2

pub overflow_add-result : goal.overflow_add-result
overflow_add-result c = (needed c.requires).0.2

pub overflow_add-result-2 : goal.overflow_add-result-2
overflow_add-result-2 c = (needed c.requires).2

pub returns : goal.returns
returns c =
    let a = c.args in
    let l = ρ a.self.now a.i a.j in
    let h = ins c.requires in
    let r = run l e bs tt h in
    (r, rw r (within-weaken (lit≤ tt) (bound l e bs h)))
