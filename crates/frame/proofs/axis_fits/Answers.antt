-- `frame::axis_fits` meets its contract: the far end is one expression over the parameters.
use Rattle.std.proofs.Common.{◌≡◌, ap, ap₂, ◌∙◌, List, [], ◌∷◌, ℕ, ◌^◌, ◌≤◌, arith, lit<, ℤ, pos, ◌+ℤ◌, ◌*ℤ◌, w64, to_z}
use Rattle.std.specs.Int.Signed.{le_z}
use mir.Facts.{to_z-of_z, to_z_pos}
use Rattle.integers.specs.Within.{Within, Withins}
use Rattle.integers.proofs.Expr.{Expr, var, raw, ◌⊕◌, ◌⊗◌}
use Rattle.integers.proofs.Machine.{Asks, within-to_z, asks, run}
use Rattle.frame.proofs.axis_fits.Goals as goal

abbrev ρ : ℤ → ℕ → ℤ → List ℤ
ρ origin cells edge = origin ∷ to_z w64 cells ∷ edge ∷ []

abbrev far : Expr
far = var 0 ⊕ raw 1 ⊗ var 2

abbrev bs : List ℕ
bs = 2 ^ 24 ∷ 64 ∷ 2 ^ 25 ∷ []

module _ {o : ℤ} {n : ℕ} {e : ℤ} (h : Within (2 ^ 24) o × (n ≤ 64) × Within (2 ^ 25) e) where
  ins : Withins bs (ρ o n e)
  ins = (h.0, (within-to_z w64 (lit< tt) h.1, (h.2, tt)))

  needed : Asks (ρ o n e) far
  needed = asks (ρ o n e) far bs tt ins

pub overflow_mul-length : goal.overflow_mul-length
overflow_mul-length c = (needed c.requires).1.2

pub overflow_add-far : goal.overflow_add-far
overflow_add-far c = (needed c.requires).2

pub returns : goal.returns
returns c =
    let a = c.args in
    let cells : to_z w64 a.cells ≡ pos a.cells = to_z_pos w64 (omega (arith, c.requires.1)) in
    ap₂ le_z (run (ρ a.origin a.cells a.edge) far bs tt (ins c.requires) ∙ ap (λ (n : ℤ). a.origin +ℤ n *ℤ a.edge) cells) (to_z-of_z {w = w64} c.ranges.farthest)
