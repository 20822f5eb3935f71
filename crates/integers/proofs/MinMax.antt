-- The lesser and the greater of two integers. `min! a b` and `max! a b` tell omega all there is to say of them:
--     clamp : (l x h : ℤ) → l ≤ℤ h → int_max l (int_min x h) ≤ℤ h
--     clamp l x h p = omega (zarith, min! x h, max! l (int_min x h))
use mathlib.Core.Path.{◌≡◌, refl}
use mathlib.Core.Bool.{Bool, true, false, cond}
use mathlib.Core.Logic.{◌⊎◌, inl, inr}
use Prim.Native.Nat.{ℕ, ◌+◌, min, max}
use lib.IntN.{ℤ}
use lib.Signed.{◌≤ℤ◌, ◌<ℤ◌, lt_z}
use Rattle.integers.specs.Within.{Within}
use Rattle.std.specs.Int.{int_min, int_max}
use Rattle.integers.proofs.Omega.{above, below, zarith}

-- a choice by the order of a and b
choice : (P : ℤ → Type 0) (a b x y : ℤ) → (b <ℤ a → P x) → (a ≤ℤ b → P y) → P (cond (lt_z b a) x y)
choice P a b x y f g = go (lt_z b a) refl
  where
    go : (t : Bool) → lt_z b a ≡ t → P (cond t x y)
    go true e = f (omega zarith)
    go false e = g (omega zarith)

module _ (a b : ℤ) where
  pub min! : above (int_min a b) + (below a + below b) ≡ min (above a + below b) (above b + below a) + below (int_min a b)
  min! =
      choice (λ z. above z + (below a + below b) ≡ min (above a + below b) (above b + below a) + below z) a b b a
      (λ h. omega zarith) (λ h. omega zarith)

  pub max! : above (int_max a b) + (below a + below b) ≡ max (above a + below b) (above b + below a) + below (int_max a b)
  max! =
      choice (λ z. above z + (below a + below b) ≡ max (above a + below b) (above b + below a) + below z) a b a b
      (λ h. omega zarith) (λ h. omega zarith)

  -- ---- which of the two, by their order
  pub min-left : a ≤ℤ b → int_min a b ≡ a
  min-left h = omega (zarith, min!)

  pub min-right : b ≤ℤ a → int_min a b ≡ b
  min-right h = omega (zarith, min!)

  pub max-left : b ≤ℤ a → int_max a b ≡ a
  max-left h = omega (zarith, max!)

  pub max-right : a ≤ℤ b → int_max a b ≡ b
  max-right h = omega (zarith, max!)

  -- ---- the greatest lower bound and the least upper bound, which are one of the two
  pub min-≤-left : int_min a b ≤ℤ a
  min-≤-left = omega (zarith, min!)

  pub min-≤-right : int_min a b ≤ℤ b
  min-≤-right = omega (zarith, min!)

  pub ≤-min : {c : ℤ} → c ≤ℤ a → c ≤ℤ b → c ≤ℤ int_min a b
  ≤-min h k = omega (zarith, min!)

  pub min-either : (int_min a b ≡ a) ⊎ (int_min a b ≡ b)
  min-either = choice (λ z. (z ≡ a) ⊎ (z ≡ b)) a b b a (λ h. inr refl) (λ h. inl refl)

  pub ≤-max-left : a ≤ℤ int_max a b
  ≤-max-left = omega (zarith, max!)

  pub ≤-max-right : b ≤ℤ int_max a b
  ≤-max-right = omega (zarith, max!)

  pub max-either : (int_max a b ≡ a) ⊎ (int_max a b ≡ b)
  max-either = choice (λ z. (z ≡ a) ⊎ (z ≡ b)) a b a b (λ h. inl refl) (λ h. inr refl)

  -- ---- their size
  pub within-min : {B : ℕ} → Within B a → Within B b → Within B (int_min a b)
  within-min h k = choice (Within _) a b b a (λ l. k) (λ l. h)

  pub within-max : {B : ℕ} → Within B a → Within B b → Within B (int_max a b)
  within-max h k = choice (Within _) a b a b (λ l. h) (λ l. k)
