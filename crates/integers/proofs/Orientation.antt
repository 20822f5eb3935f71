-- The sign of a number n, and a number that is negated where n is negative.
--     turned_by        such a number is the sign times it
--     orientation-nn   n times its sign is not negative
-- Assumes nothing.
use mathlib.Core.Path.{◌≡◌, refl}
use mathlib.Core.Bool.{Bool, true, false, cond}
use mathlib.Core.List.{[], ◌∷◌}
use lib.IntN.{ℤ, pos, negsuc, neg_ℤ, ◌*ℤ◌}
use lib.Signed.{lt_z}
use Rattle.integers.proofs.Omega.{zarith}
use Rattle.integers.proofs.Laws.{NN}
use Rattle.integers.proofs.Expr.{lit, var, num, neg, ◌⊗◌}
use Rattle.integers.proofs.Ring.{ring1}
use Rattle.integers.proofs.Certificates.{le, by-nn}

-- −1 where n < 0, and 1 elsewhere
abbrev pub orientation : ℤ → ℤ
orientation n = cond (lt_z n (pos 0)) (negsuc 0) (pos 1)

pub turned_by : (n c : ℤ) → cond (lt_z n (pos 0)) (neg_ℤ c) c ≡ orientation n *ℤ c
turned_by n c = go (lt_z n (pos 0))
  where
    go : (k : Bool) → cond k (neg_ℤ c) c ≡ cond k (negsuc 0) (pos 1) *ℤ c
    go true = ring1 (λ x. neg x) (λ x. lit (negsuc 0) ⊗ x) tt c
    go false = ring1 (λ x. x) (λ x. num 1 ⊗ x) tt c

pub orientation-nn : (n : ℤ) → NN (orientation n *ℤ n)
orientation-nn n = go (lt_z n (pos 0)) refl
  where
    go : (k : Bool) → lt_z n (pos 0) ≡ k → NN (cond k (negsuc 0) (pos 1) *ℤ n)
    go true e = by-nn (n ∷ []) (lit (negsuc 0) ⊗ var 0) (le (var 0) (num 0) (omega zarith)) tt
    go false e = by-nn (n ∷ []) (num 1 ⊗ var 0) (le (num 0) (var 0) (omega zarith)) tt
