-- `placed::component`: the result is one expression over the coordinates.
use Rattle.std.proofs.Common.{List, [], ◌∷◌, ℤ}
use Rattle.integers.specs.Within.{Withins}
use Rattle.integers.proofs.Expr.{Expr, var, ◌⊖◌, ◌⊗◌}
use Rattle.integers.proofs.Machine.{Asks, asks, run}
use Rattle.geometry.specs.Bounds.{offset_max, each}
use Rattle.placed.proofs.component.Goals as goal

abbrev e : Expr
e = (var 2 ⊖ var 0) ⊗ (var 5 ⊖ var 1) ⊖ (var 3 ⊖ var 1) ⊗ (var 4 ⊖ var 0)

needed : (ρ : List ℤ) → Withins (each offset_max 6 []) ρ → Asks ρ e
needed ρ h = asks ρ e (each offset_max 6 []) tt h

pub overflow_mul-result : goal.overflow_mul-result
overflow_mul-result c = let a = c.args in (needed (a.a0 ∷ a.b0 ∷ a.a1 ∷ a.b1 ∷ a.a2 ∷ a.b2 ∷ []) c.requires).0.2

pub overflow_mul-result-2 : goal.overflow_mul-result-2
overflow_mul-result-2 c = let a = c.args in (needed (a.a0 ∷ a.b0 ∷ a.a1 ∷ a.b1 ∷ a.a2 ∷ a.b2 ∷ []) c.requires).1.2

pub overflow_sub-result : goal.overflow_sub-result
overflow_sub-result c = let a = c.args in (needed (a.a0 ∷ a.b0 ∷ a.a1 ∷ a.b1 ∷ a.a2 ∷ a.b2 ∷ []) c.requires).2

pub returns : goal.returns
returns c = let a = c.args in run (a.a0 ∷ a.b0 ∷ a.a1 ∷ a.b1 ∷ a.a2 ∷ a.b2 ∷ []) e (each offset_max 6 []) tt c.requires
