-- On one axis: a leg from a to b, a box from p to p + d, and weights with which the leg is between its sides. Bare integers.
--     by_way          the three ways a leg goes on an axis: up, down, or not at all
--     axis-positive   the fraction at which it comes to the box has a positive denominator
--     axis-least      no such weights have a lesser fraction than that one
--     axis-at         weights whose fraction lies from that one to one of such weights are such weights
-- Assumes nothing.
use mathlib.Core.Bool.{Bool, true, false, cond}
use mathlib.Core.List.{[], ◌∷◌}
use mathlib.Core.Path.{◌≡◌, refl, sym}
use lib.IntN.{ℤ, pos, ◌+ℤ◌, ◌-ℤ◌, ◌*ℤ◌}
use lib.Signed.{◌≤ℤ◌, ◌<ℤ◌, lt_z}
use Rattle.integers.proofs.Laws.{NN, <→≤, ≤-antisymm}
use Rattle.integers.proofs.Omega.{lt-true, lt-false}
use Rattle.integers.proofs.Expr.{Expr, var, num, ◌⊕◌, ◌⊖◌, ◌⊗◌}
use Rattle.integers.proofs.Certificates.{nn, le, lt, eq, ◌⊞◌, ◌⊠◌, by_le, by-lt, by-le/}
use Rattle.entry.specs.declared.Fraction.{Fraction}
use Rattle.entry.specs.Entry.{over, entry_on}
use Rattle.entry.specs.Inner.{AtMost, Positive}

module _ (a b p d : ℤ) where
  by_way : (P : Fraction → Type 0) → (a <ℤ b → P (over (p -ℤ a) (b -ℤ a))) → (b <ℤ a → P (over (a -ℤ (p +ℤ d)) (a -ℤ b)))
      → (a ≡ b → P (over (pos 0) (pos 1))) → P (entry_on a b p d)
  unfolding entry_on
  by_way P up down still = go (lt_z a b) (lt_z b a) refl refl
    where
      go : (s t : Bool) → lt_z a b ≡ s → lt_z b a ≡ t
          → P (cond s (over (p -ℤ a) (b -ℤ a)) (cond t (over (a -ℤ (p +ℤ d)) (a -ℤ b)) (over (pos 0) (pos 1))))
      go true t e f = up (lt-true a b e)
      go false true e f = down (lt-true b a f)
      go false false e f = still (≤-antisymm (lt-false b a f) (lt-false a b e))

  pub axis-positive : Positive (entry_on a b p d)
  axis-positive =
      let ρ = a ∷ b ∷ [] in
      by_way Positive (λ h. by-lt ρ (num 0) (var 1 ⊖ var 0) (lt (var 0) (var 1) h) tt)
      (λ h. by-lt ρ (num 0) (var 0 ⊖ var 1) (lt (var 1) (var 0) h) tt) (λ h. record { lt = tt })

  -- the weights put the leg between the sides
  pub record Inside (w0 w1 : ℤ) : Type 0 where
    pub from : (p *ℤ (w0 +ℤ w1)) ≤ℤ (w0 *ℤ a +ℤ w1 *ℤ b)
    pub to : (w0 *ℤ a +ℤ w1 *ℤ b) ≤ℤ ((p +ℤ d) *ℤ (w0 +ℤ w1))

  abbrev A : Expr
  A = var 0

  abbrev B : Expr
  B = var 1

  abbrev P : Expr
  P = var 2

  abbrev Q : Expr
  Q = P ⊕ var 3

  abbrev W0 : Expr
  W0 = var 4

  abbrev W1 : Expr
  W1 = var 5

  abbrev at : Expr
  at = W0 ⊗ A ⊕ W1 ⊗ B

  pub axis-least : (w0 w1 : ℤ) → NN w1 → Inside w0 w1 → AtMost (entry_on a b p d) (over w1 (w0 +ℤ w1))
  axis-least w0 w1 h i =
      let ρ = a ∷ b ∷ p ∷ d ∷ w0 ∷ w1 ∷ [] in
      by_way (λ f. AtMost f (over w1 (w0 +ℤ w1)))
      (λ _. by_le ρ ((P ⊖ A) ⊗ (W0 ⊕ W1)) (W1 ⊗ (B ⊖ A)) (le (P ⊗ (W0 ⊕ W1)) at i.from) tt)
      (λ _. by_le ρ ((A ⊖ Q) ⊗ (W0 ⊕ W1)) (W1 ⊗ (A ⊖ B)) (le at (Q ⊗ (W0 ⊕ W1)) i.to) tt)
      (λ _. by_le ρ (num 0 ⊗ (W0 ⊕ W1)) (W1 ⊗ num 1) (nn W1 h) tt)

  pub axis-at : (w0 w1 u v : ℤ) → pos 0 <ℤ (w0 +ℤ w1) → NN (u +ℤ v) → Inside w0 w1 → AtMost (entry_on a b p d) (over v (u +ℤ v))
      → AtMost (over v (u +ℤ v)) (over w1 (w0 +ℤ w1)) → Inside u v
  axis-at w0 w1 u v hw hu i =
      let ρ = a ∷ b ∷ p ∷ d ∷ w0 ∷ w1 ∷ u ∷ v ∷ [] in
      let W = W0 ⊕ W1 in let V0 = var 6 in let V1 = var 7 in let T = V0 ⊕ V1 in
      let there = V0 ⊗ A ⊕ V1 ⊗ B in
      by_way (λ f. AtMost f (over v (u +ℤ v)) → AtMost (over v (u +ℤ v)) (over w1 (w0 +ℤ w1)) → Inside u v)
      (λ h come before. record {
        from = by_le ρ (P ⊗ T) there (le ((P ⊖ A) ⊗ T) (V1 ⊗ (B ⊖ A)) come) tt;
        to = by-le/ ρ W there (Q ⊗ T) hw (nn T hu ⊠ le at (Q ⊗ W) i.to ⊞ le A B (<→≤ h) ⊠ le (V1 ⊗ W) (W1 ⊗ T) before) tt;
      })
      (λ h come before. record {
        from = by-le/ ρ W (P ⊗ T) there hw (nn T hu ⊠ le (P ⊗ W) at i.from ⊞ le B A (<→≤ h) ⊠ le (V1 ⊗ W) (W1 ⊗ T) before) tt;
        to = by_le ρ there (Q ⊗ T) (le ((A ⊖ Q) ⊗ T) (V1 ⊗ (A ⊖ B)) come) tt;
      })
      (λ h come before. record {
        from = by-le/ ρ W (P ⊗ T) there hw (nn T hu ⊠ le (P ⊗ W) at i.from ⊞ eq (W1 ⊗ T ⊖ V1 ⊗ W) B A (sym h)) tt;
        to = by-le/ ρ W there (Q ⊗ T) hw (nn T hu ⊠ le at (Q ⊗ W) i.to ⊞ eq (W1 ⊗ T ⊖ V1 ⊗ W) A B h) tt;
      })
