-- `weights::sides_on`: each number is an expression over the parameters.
use mathlib.Core.List.{List, [], ◌∷◌}
use mathlib.Core.Path.{◌≡◌}
use lib.Dec.{T}
use lib.IntN.{ℤ}
use Rattle.integers.specs.Within.{Withins}
use Rattle.integers.proofs.Expr.{Expr, var, ◌⊖◌, eval}
use Rattle.integers.proofs.Machine.{mach, run, small}
use Rattle.weights.specs.Inner.{side_bounds}
use Rattle.weights.proofs.sides_on.Goals as goal

abbrev x : Expr
x = var 0 ⊖ var 3

abbrev y : Expr
y = var 1 ⊖ var 3

abbrev z : Expr
z = var 2 ⊖ var 3

module _ {a b c p extent : ℤ} (h : Withins side_bounds (a ∷ b ∷ c ∷ p ∷ extent ∷ [])) where
  abbrev ρ : List ℤ
  ρ = a ∷ b ∷ c ∷ p ∷ extent ∷ []

  is : (e : Expr) → T (small e side_bounds) → mach ρ e ≡ eval ρ e
  is e t = run ρ e side_bounds t h

pub returns : goal.returns
returns c =
    let h = c.requires in
    λ i. record {
      low = record { x = is h x tt i; y = is h y tt i; z = is h z tt i };
      high = record { x = is h (var 4 ⊖ x) tt i; y = is h (var 4 ⊖ y) tt i; z = is h (var 4 ⊖ z) tt i };
    }
