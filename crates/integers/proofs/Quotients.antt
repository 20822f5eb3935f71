-- The quotient that the machine computes, which is rounded toward 0, its remainder, and from these the quotient that is rounded down, `Floor x d q`.
--     half : (x q : ℤ) → Floor x (pos 2) q → pos 6 ≤ℤ x → pos 3 ≤ℤ q
--     half x q f h = ≤-floor (pos-lt (lit< tt)) f h
use mathlib.Core.Path.{◌≡◌, ◌∙◌, sym, ap}
use mathlib.Core.Logic.{◌⊎◌, inl, inr}
use mathlib.Core.List.{List, [], ◌∷◌}
use Prim.Native.Nat.{ℕ, suc, ◌+◌, ◌*◌, ◌/◌, ◌%◌, ◌≤◌, ◌<◌}
use native.Mathlib.Nat.{lt_of_le_of_lt, div-le_self, mod-lt, mul_comm, div-add-mod'}
use native.Mathlib.Omega.{arith}
use lib.Dec.{ltb→lt}
use lib.IntN.{ℤ, pos, negsuc, neg_ℤ, nat_abs, ◌+ℤ◌, ◌-ℤ◌, ◌*ℤ◌, neg_ℤ-neg_ℤ, neg_ℤ-+ℤ}
use lib.Signed.{◌≤ℤ◌, ◌<ℤ◌, mag, mag_rem, quot_z, rem_z}
use mir.Syntax.{Width}
use mir.Val.{SFits, of_z}
use Rattle.integers.specs.Inner.{Floor}
use Rattle.integers.proofs.Omega.{zarith, neg!, abs!, mag! }
use Rattle.integers.proofs.Laws.{neg-*-r, ≤-or->}
use Rattle.integers.proofs.Bounds.{abs_neg}
use Rattle.integers.proofs.Expr.{Expr, lit, var, num, ◌⊕◌, ◌⊖◌, ◌⊗◌, neg}
use Rattle.integers.proofs.Certificates.{le, lt, eq, ps, weak, strict, ◌⊞◌, ◌⊠◌, by_le, by-lt, by-false}

-- ---- quotient and remainder
whole : (a n : ℕ) → n * (a / n) + a % n ≡ a
whole a n = ap (λ (m : ℕ). m + a % n) (mul_comm n (a / n)) ∙ div-add-mod' a n

below-zero : (a n : ℕ) → neg_ℤ (pos (n * (a / n))) +ℤ neg_ℤ (pos (a % n)) ≡ neg_ℤ (pos a)
below-zero a n = sym (neg_ℤ-+ℤ (pos (n * (a / n))) (pos (a % n))) ∙ ap (λ (m : ℕ). neg_ℤ (pos m)) (whole a n)

pub quot-rem : (x d : ℤ) → d *ℤ quot_z x d +ℤ rem_z x d ≡ x
quot-rem (pos a) (pos n) = ap pos (whole a n)
quot-rem (pos a) (negsuc n) =
    ap (λ (z : ℤ). z +ℤ pos (a % suc n)) (neg-*-r (negsuc n) (pos (a / suc n)) ∙ neg_ℤ-neg_ℤ (pos (suc n * (a / suc n))))
    ∙ ap pos (whole a (suc n))
quot-rem (negsuc a) (pos n) =
    ap (λ (z : ℤ). z +ℤ neg_ℤ (pos (suc a % n))) (neg-*-r (pos n) (pos (suc a / n))) ∙ below-zero (suc a) n
quot-rem (negsuc a) (negsuc n) = below-zero (suc a) (suc n)

pub rem_lt : (x d : ℤ) → 0 < nat_abs d → nat_abs (rem_z x d) < nat_abs d
rem_lt (pos a) d h = mod-lt a h
rem_lt (negsuc a) d h = rw (abs_neg (pos (suc a % nat_abs d))) (mod-lt (suc a) h)

-- ---- what the machine asks of a division by a positive number
pub divisor-pos : (w : Width) (d : ℤ) → pos 0 <ℤ d → 0 < of_z w d
divisor-pos w (pos n) h = ltb→lt 0 n h.lt
divisor-pos w (negsuc n) h = absurd h.lt

mag-quot : (x d : ℤ) → pos 0 <ℤ d → mag (quot_z x d) ≤ mag x
mag-quot (pos a) (pos b) h = div-le_self a b
mag-quot (negsuc a) (pos b) h = omega (arith, mag! (neg_ℤ (pos (suc a / b))), neg! (pos (suc a / b)), div-le_self (suc a) b)
mag-quot x (negsuc b) h = absurd h.lt

pub quot_fits : {w : Width} {x : ℤ} (d : ℤ) → pos 0 <ℤ d → SFits w x → SFits w (quot_z x d)
quot_fits {x = x} d h f = record { sfits = lt_of_le_of_lt (mag-quot x d h) f.sfits }

pub rem-fits : {w : Width} {x : ℤ} (d : ℤ) → SFits w x → SFits w (rem_z x d)
rem-fits {x = x} d f = record { sfits = lt_of_le_of_lt (mag_rem x d) f.sfits }

-- ---- the quotient rounded down, from the machine's
-- x, d, a quotient, and a remainder or another number, as variables
abbrev X : Expr
X = var 0

abbrev D : Expr
D = var 1

abbrev Q : Expr
Q = var 2

abbrev R : Expr
R = var 3

abbrev K : Expr
K = var 3

module _ (x d : ℤ) (h : pos 0 <ℤ d) where
  abbrev ρ : List ℤ
  ρ = x ∷ d ∷ quot_z x d ∷ rem_z x d ∷ []

  rem-low : neg_ℤ d ≤ℤ rem_z x d
  rem-low = omega (zarith, rem_lt x d (omega (zarith, abs! d)), abs! d, abs! (rem_z x d), neg! d)

  rem-high : rem_z x d <ℤ d
  rem-high = omega (zarith, rem_lt x d (omega (zarith, abs! d)), abs! d, abs! (rem_z x d))

  -- a negative remainder: one less than the machine's quotient
  pub floor-less : rem_z x d <ℤ pos 0 → Floor x d (quot_z x d -ℤ pos 1)
  floor-less r = record {
    low = by_le ρ (D ⊗ (Q ⊖ num 1)) X (le (neg D) R rem-low ⊞ eq (num 1) (D ⊗ Q ⊕ R) X (quot-rem x d)) tt;
    high = by-lt ρ X (D ⊗ (Q ⊖ num 1) ⊕ D) (lt R (num 0) r ⊞ eq (lit (negsuc 0)) (D ⊗ Q ⊕ R) X (quot-rem x d)) tt;
  }

  -- any other remainder: the machine's quotient
  pub floor-same : pos 0 ≤ℤ rem_z x d → Floor x d (quot_z x d)
  floor-same r = record {
    low = by_le ρ (D ⊗ Q) X (le (num 0) R r ⊞ eq (num 1) (D ⊗ Q ⊕ R) X (quot-rem x d)) tt;
    high = by-lt ρ X (D ⊗ Q ⊕ D) (lt R D rem-high ⊞ eq (lit (negsuc 0)) (D ⊗ Q ⊕ R) X (quot-rem x d)) tt;
  }

-- ---- what the quotient rounded down says
-- k is at most the quotient exactly when d · k is at most x
pub ≤-floor : {x d q k : ℤ} → pos 0 <ℤ d → Floor x d q → (d *ℤ k) ≤ℤ x → k ≤ℤ q
≤-floor {x} {d} {q} {k} h f l = go (≤-or-> k q)
  where
    go : (k ≤ℤ q) ⊎ (q <ℤ k) → k ≤ℤ q
    go (inl m) = m
    go (inr m) =
        absurd (by-false (x ∷ d ∷ q ∷ k ∷ []) (weak (ps D h) ⊠ lt Q K m ⊞ le (D ⊗ K) X l ⊞ lt X (D ⊗ Q ⊕ D) f.high) tt)

pub floor-≤ : {x d q k : ℤ} → pos 0 <ℤ d → Floor x d q → k ≤ℤ q → (d *ℤ k) ≤ℤ x
floor-≤ {x} {d} {q} {k} h f l =
    by_le (x ∷ d ∷ q ∷ k ∷ []) (D ⊗ K) X (weak (ps D h) ⊠ le K Q l ⊞ le (D ⊗ Q) X f.low) tt

-- the quotient lies between 0 and x, or between x and −1
pub floor-fits : {w : Width} {x q : ℤ} (d : ℤ) → pos 0 <ℤ d → Floor x d q → SFits w x → SFits w q
floor-fits {x = x} {q} d h f s = record { sfits = lt_of_le_of_lt (go (≤-or-> (pos 0) q)) s.sfits }
  where
    go : (pos 0 ≤ℤ q) ⊎ (q <ℤ pos 0) → mag q ≤ mag x
    go (inl n) =
        let m : q ≤ℤ x = by_le (x ∷ d ∷ q ∷ []) Q X (le (D ⊗ Q) X f.low ⊞ strict (ps D h) ⊠ le (num 0) Q n) tt in
        omega (zarith, mag! q, mag! x, abs! q, abs! x)
    go (inr n) =
        let m : x ≤ℤ q = by_le (x ∷ d ∷ q ∷ []) X Q (lt X (D ⊗ Q ⊕ D) f.high ⊞ strict (ps D h) ⊠ lt Q (num 0) n) tt in
        omega (zarith, mag! q, mag! x, abs! q, abs! x)
