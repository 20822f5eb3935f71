-- `entry::AxisEntry::at`: the numerator is linear in the box's number.
use mathlib.Core.List.{List, [], ◌∷◌}
use mathlib.Core.Path.{◌≡◌, subst}
use Prim.Native.Nat.{ℕ}
use lib.IntN.{pos}
use Rattle.integers.specs.Within.{Withins}
use Rattle.integers.proofs.Expr.{Expr, var, ◌⊕◌, ◌⊗◌}
use Rattle.integers.proofs.Machine.{mach, run}
use Rattle.geometry.specs.Bounds.{step_max, index_max}
use Rattle.entry.specs.Parts.{Approach, axis_entry_max}
use Rattle.entry.specs.Entry.{over}
use Rattle.entry.specs.Inner.{entry_by}
use Rattle.entry.proofs.AxisEntry.at.Goals as goal

abbrev bs : List ℕ
bs = axis_entry_max ∷ step_max ∷ index_max ∷ axis_entry_max ∷ []

abbrev num : Expr
num = var 0 ⊕ var 1 ⊗ var 2

pub returns : goal.returns
returns c =
    let i = c.args.i in
    let s = c.self.inside in
    let k = c.self.invariant in
    let ρ = s.num ∷ s.slope ∷ pos i ∷ s.den ∷ [] in
    let h : Withins bs ρ = (k.num, (k.slope, (record { within = c.requires }, (k.den, tt)))) in
    subst (λ (e : Approach). over (mach ρ num) (mach ρ (var 3)) ≡ entry_by e i) c.self.view_is
    (λ t. over (run ρ num bs tt h t) (run ρ (var 3) bs tt h t))
