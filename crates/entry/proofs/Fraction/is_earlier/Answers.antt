-- `entry::Fraction::is_earlier`: each product is one of two bounded numbers.
use mathlib.Core.List.{List, [], ◌∷◌}
use mathlib.Core.Path.{◌≡◌, ap₂, subst}
use Prim.Native.Nat.{ℕ}
use lib.Signed.{lt_z}
use Rattle.integers.specs.Within.{Withins}
use Rattle.integers.proofs.Expr.{Expr, var, ◌⊗◌}
use Rattle.integers.proofs.Machine.{mach, run}
use Rattle.geometry.specs.Bounds.{each}
use Rattle.entry.specs.Ratio.{Ratio}
use Rattle.entry.specs.Parts.{fraction_max}
use Rattle.entry.specs.Entry.{over, earlier}
use Rattle.entry.proofs.Fraction.is_earlier.Goals as goal

abbrev bs : List ℕ
bs = each fraction_max 4 []

abbrev left : Expr
left = var 0 ⊗ var 3

abbrev right : Expr
right = var 2 ⊗ var 1

pub returns : goal.returns
returns c =
    let f = c.self.inside in
    let g = c.g.inside in
    let ρ = f.num ∷ f.den ∷ g.num ∷ g.den ∷ [] in
    let h : Withins bs ρ = (c.self.invariant.num, (c.self.invariant.den, (c.g.invariant.num, (c.g.invariant.den, tt)))) in
    subst (λ (v : Ratio). lt_z (mach ρ left) (mach ρ right) ≡ earlier v c.args.g) c.self.view_is
    (subst (λ (w : Ratio). lt_z (mach ρ left) (mach ρ right) ≡ earlier (over f.num f.den) w) c.g.view_is
    (ap₂ lt_z (run ρ left bs tt h) (run ρ right bs tt h)))
