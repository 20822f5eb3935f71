-- `entry::AxisEntry::of_leg`: the two tests say which of the three, whose numbers are expressions over the parameters.
use mathlib.Core.List.{List, [], ◌∷◌}
use mathlib.Core.Path.{◌≡◌, refl}
use Prim.Native.Nat.{ℕ}
use lib.Dec.{T}
use lib.IntN.{ℤ}
use lib.Signed.{lt_z}
use Rattle.integers.specs.Within.{Withins}
use Rattle.integers.proofs.Expr.{Expr, var, neg, ◌⊕◌, ◌⊖◌, eval}
use Rattle.integers.proofs.Machine.{mach, run, small, tested}
use Rattle.entry.specs.Inner.{entry_bounds, axis_entry, axis_entry_of}
use Rattle.entry.proofs.AxisEntry.of_leg.Goals as goal

abbrev bs : List ℕ
bs = entry_bounds

abbrev A : Expr
A = var 0

abbrev B : Expr
B = var 1

abbrev far : Expr
far = A ⊖ (var 2 ⊕ var 4)

abbrev numbers : (a b first step extent : ℤ) → List ℤ
numbers a b first step extent = a ∷ b ∷ first ∷ step ∷ extent ∷ []

-- an entry by three expressions
value : (ρ : List ℤ) → Withins bs ρ → (n m d : Expr) → T (small n bs) → T (small m bs) → T (small d bs)
    → axis_entry (mach ρ n) (mach ρ m) (mach ρ d) ≡ axis_entry (eval ρ n) (eval ρ m) (eval ρ d)
value ρ h n m d tn tm td = λ i. axis_entry (run ρ n bs tn h i) (run ρ m bs tm h i) (run ρ d bs td h i)

pub returns-then-a-b : goal.returns-then-a-b
unfolding axis_entry_of
returns-then-a-b c =
    let a = c.args in
    let ρ = numbers a.a a.b a.first a.step a.extent in
    rw (tested ρ lt_z A B bs tt c.requires c.if-a-b.true) (value ρ c.requires (var 2 ⊖ A) (var 3) (B ⊖ A) tt tt tt)

pub returns-then-b-a : goal.returns-then-b-a
unfolding axis_entry_of
returns-then-b-a c =
    let a = c.args in
    let ρ = numbers a.a a.b a.first a.step a.extent in
    rw (tested ρ lt_z A B bs tt c.requires c.if-a-b.false, tested ρ lt_z B A bs tt c.requires c.if-b-a.true)
    (value ρ c.requires far (neg (var 3)) (A ⊖ B) tt tt tt)

pub returns : goal.returns
unfolding axis_entry_of
returns c =
    let a = c.args in
    let ρ = numbers a.a a.b a.first a.step a.extent in
    rw (tested ρ lt_z A B bs tt c.requires c.if-a-b.false, tested ρ lt_z B A bs tt c.requires c.if-b-a.false) refl
