-- The greater and the lesser of 0 and a number, times a factor that is not negative.
--     max-scale, min-scale    the factor passes through
--     spread                  the difference of the two is the number's magnitude
-- Assumes nothing.
use mathlib.Core.List.{[], ◌∷◌}
use mathlib.Core.Logic.{inl, inr}
use mathlib.Core.Path.{◌≡◌, sym, ap, ◌∙◌}
use lib.IntN.{ℤ, pos, nat_abs, ◌-ℤ◌, ◌*ℤ◌, *ℤ-zero}
use lib.Signed.{◌≤ℤ◌, ◌<ℤ◌}
use Rattle.std.specs.Int.{int_min, int_max}
use Rattle.integers.proofs.Omega.{zarith, -!, abs! }
use Rattle.integers.proofs.Laws.{≤-or->, <→≤, nn-mul}
use Rattle.integers.proofs.Expr.{var, num, ◌⊗◌}
use Rattle.integers.proofs.Certificates.{le, ◌⊠◌, by_le}
use Rattle.integers.proofs.MinMax.{min!, max!, min-left, min-right, max-left, max-right}

module _ {d : ℤ} (m : ℤ) (h : pos 0 ≤ℤ d) where
  above : pos 0 ≤ℤ m → pos 0 ≤ℤ (d *ℤ m)
  above k = nn-mul h k

  under : m <ℤ pos 0 → (d *ℤ m) ≤ℤ pos 0
  under k = by_le (d ∷ m ∷ []) (var 0 ⊗ var 1) (num 0) (le (num 0) (var 0) h ⊠ le (var 1) (num 0) (<→≤ k)) tt

  pub max-scale : int_max (pos 0) (d *ℤ m) ≡ d *ℤ int_max (pos 0) m
  max-scale = elim (≤-or-> (pos 0) m) [
    | inl k ↦ max-right (pos 0) (d *ℤ m) (above k) ∙ ap (λ (z : ℤ). d *ℤ z) (sym (max-right (pos 0) m k))
    | inr k ↦ max-left (pos 0) (d *ℤ m) (under k) ∙ sym (ap (λ (z : ℤ). d *ℤ z) (max-left (pos 0) m (<→≤ k)) ∙ *ℤ-zero d)
  ]

  pub min-scale : int_min (pos 0) (d *ℤ m) ≡ d *ℤ int_min (pos 0) m
  min-scale = elim (≤-or-> (pos 0) m) [
    | inl k ↦ min-left (pos 0) (d *ℤ m) (above k) ∙ sym (ap (λ (z : ℤ). d *ℤ z) (min-left (pos 0) m k) ∙ *ℤ-zero d)
    | inr k ↦ min-right (pos 0) (d *ℤ m) (under k) ∙ ap (λ (z : ℤ). d *ℤ z) (sym (min-right (pos 0) m (<→≤ k)))
  ]

pub spread : (x : ℤ) → int_max (pos 0) x -ℤ int_min (pos 0) x ≡ pos (nat_abs x)
spread x = omega (zarith, max! (pos 0) x, min! (pos 0) x, abs! x, -! (int_max (pos 0) x) (int_min (pos 0) x))
