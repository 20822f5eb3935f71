-- `forms::inside_from`: the test says whether the normal is 0.
use mathlib.Core.Bool.{Bool, cond}
use mathlib.Core.List.{List, [], ◌∷◌}
use mathlib.Core.Path.{◌≡◌, ◌∙◌, sym, ap}
use Prim.Native.Nat.{ℕ}
use lib.IntN.{ℤ, pos, nat_abs, ◌+ℤ◌, ◌*ℤ◌}
use lib.Signed.{le_z}
use mir.Syntax.{w64}
use Rattle.integers.specs.Within.{Withins}
use Rattle.integers.proofs.Expr.{Expr, var, ◌⊕◌, ◌⊗◌, eval}
use Rattle.integers.proofs.Machine.{mach, back, asks, run}
use Rattle.geometry.specs.Bounds.{difference_max, extent_max}
use Rattle.forms.specs.Form.{inside_max}
use Rattle.forms.specs.Triangle.{inside_bounds}
use Rattle.forms.proofs.Sizes.{within-size}
use Rattle.forms.proofs.inside_from.Goals as goal
use Rattle.forms.proofs.inside_from.Goals.{After-abs-b}

abbrev ρ : After-abs-b → List ℤ
ρ c = let a = c.args in a.n ∷ a.ea ∷ a.eb ∷ a.extent ∷ []

-- the magnitude of a number, as a call gives it
size : (c : After-abs-b) (e : Expr) {r : ℤ} {m : ℤ} → m ≡ eval (ρ c) e → r ≡ pos (nat_abs m) → r ≡ pos (nat_abs (eval (ρ c) e))
size c e h k = k ∙ ap (λ (z : ℤ). pos (nat_abs z)) h

steep-is : (c : After-abs-b) → c.abs-steep.result ≡ pos (nat_abs c.args.n)
steep-is c = size c (var 0) (run (ρ c) (var 0) inside_bounds tt c.requires) c.abs-steep.ensures.value

test-is : (c : After-abs-b) {t : Bool} → le_z (mach (c.abs-steep.result ∷ []) (var 0)) (pos 0) ≡ t → le_z (pos (nat_abs c.args.n)) (pos 0) ≡ t
test-is c h = ap (λ (z : ℤ). le_z z (pos 0)) (sym (back w64 c.abs-steep.type_inv ∙ steep-is c)) ∙ h

a-is : (c : After-abs-b) → c.abs-a.result ≡ pos (nat_abs c.args.ea)
a-is c = size c (var 1) (run (ρ c) (var 1) inside_bounds tt c.requires) c.abs-a.ensures.value

b-is : (c : After-abs-b) → c.abs-b.result ≡ pos (nat_abs c.args.eb)
b-is c = size c (var 2) (run (ρ c) (var 2) inside_bounds tt c.requires) c.abs-b.ensures.value

-- the magnitudes, and the extent
abbrev ρm : After-abs-b → List ℤ
ρm c = c.abs-a.result ∷ c.abs-b.result ∷ c.args.extent ∷ []

abbrev bm : List ℕ
bm = difference_max ∷ difference_max ∷ extent_max ∷ []

ins-m : (c : After-abs-b) → Withins bm (ρm c)
ins-m c = let p = c.requires in (rw (a-is c) (within-size p.1.0), (rw (b-is c) (within-size p.1.1.0), (p.1.1.1.0, tt)))

abbrev e : Expr
e = var 2 ⊗ (var 0 ⊕ var 1)

pub overflow_mul-result : goal.overflow_mul-result
overflow_mul-result c = (asks (ρm c) e bm tt (ins-m c)).2

pub returns : goal.returns
returns c =
    let a = c.args in
    let z = a.extent in
    run (ρm c) e bm tt (ins-m c) ∙ (λ i. z *ℤ (a-is c i +ℤ b-is c i))
    ∙ ap (λ (b : Bool). cond b (pos inside_max) (z *ℤ (pos (nat_abs a.ea) +ℤ pos (nat_abs a.eb)))) (sym (test-is c c.if-steep-le0.false))
