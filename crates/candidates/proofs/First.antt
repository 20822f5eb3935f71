-- Numbers a k, none negative, that change by b k with each step, all at one pace: the first of those that fall to come to 0. Bare integers.
--     First   k is the first: when it has come to 0, no other is negative
--     first   there is one, where one of them falls
-- Assumes nothing.
use mathlib.Core.List.{[], ◌∷◌}
use mathlib.Core.Logic.{◌⊎◌, inl, inr}
use mathlib.Core.Path.{sym, subst}
use Prim.Native.Nat.{ℕ, zero, suc, ◌<◌}
use native.Mathlib.Nat.{eq-or-lt_of_le, le_of_suc-le-suc, not-suc-le-zero}
use native.Mathlib.Omega.{arith}
use lib.IntN.{ℤ, pos, ◌-ℤ◌, ◌*ℤ◌}
use lib.Signed.{◌<ℤ◌, clash_ℤ}
use Rattle.integers.proofs.Laws.{NN, <→≤, ≤-or->, ≤→nn, nn→≤}
use Rattle.integers.proofs.Expr.{var, num, ◌⊖◌, ◌⊗◌, neg}
use Rattle.integers.proofs.Certificates.{nn, le, lt, nat, ◌⊞◌, ◌⊠◌, by-nn, by-nn/, by-lt}
use Rattle.reach.proofs.Vectors.{negative}

-- what holds below n and of n holds below n + 1
extend : {n : ℕ} (P : ℕ → Type 0) → ((k : ℕ) → k < n → P k) → P n → (k : ℕ) → k < suc n → P k
extend {n} P h p k l = elim (eq-or-lt_of_le {n = k} {m = n} (le_of_suc-le-suc l)) [
  | inl e ↦ subst P (sym e) p
  | inr m ↦ h k m
]

module _ (a b : ℕ → ℤ) where
  -- where k comes to 0, j is not negative
  abbrev pub Lasts : (k j : ℕ) → Type 0
  Lasts k j = NN (a k *ℤ b j -ℤ b k *ℤ a j)

  pub record First (n : ℕ) : Type 0 where
    pub k : ℕ
    pub below : k < n
    pub falls : b k <ℤ pos 0
    pub others : (j : ℕ) → j < n → Lasts k j

  -- what does not fall lasts longer than what falls
  rising : (k j : ℕ) → NN (a k) → NN (a j) → b k <ℤ pos 0 → NN (b j) → Lasts k j
  rising k j hk hj falls rises =
      by-nn (a k ∷ b k ∷ a j ∷ b j ∷ []) (var 0 ⊗ var 3 ⊖ var 1 ⊗ var 2) (nn (var 0) hk ⊠ nn (var 3) rises ⊞ negative (var 1) falls ⊠ nn (var 2) hj) tt

  itself : (k : ℕ) → Lasts k k
  itself k = by-nn (a k ∷ b k ∷ []) (var 0 ⊗ var 1 ⊖ var 1 ⊗ var 0) (nat 0) tt

  -- n comes to 0 before k, the first of those below n
  sooner : (n : ℕ) (f : First n) → ((k : ℕ) → k < suc n → NN (a k)) → (a f.k *ℤ b n) <ℤ (b f.k *ℤ a n) → First (suc n)
  sooner n f ha h = record { k = n; below = omega arith; falls = falls; others = extend (Lasts n) before (itself n) }
    where
      ak : NN (a f.k)
      ak = ha f.k (omega (arith, f.below))

      an : NN (a n)
      an = ha n (omega arith)

      falls : b n <ℤ pos 0
      falls = elim (≤-or-> (pos 0) (b n)) [
        | inl r ↦ absurd (clash_ℤ h (nn→≤ (rising f.k n ak an f.falls r)))
        | inr r ↦ r
      ]

      before : (j : ℕ) → j < n → Lasts n j
      before j l = elim (≤-or-> (pos 0) (b j)) [
        | inl r ↦ rising n j an (ha j (omega arith)) falls r
        | inr r ↦
            let ρ = a f.k ∷ b f.k ∷ a n ∷ b n ∷ a j ∷ b j ∷ [] in
            by-nn/ ρ (neg (var 1)) (var 2 ⊗ var 5 ⊖ var 3 ⊗ var 4) (by-lt ρ (num 0) (neg (var 1)) (lt (var 1) (num 0) f.falls) tt)
            (negative (var 3) falls ⊠ nn (var 0 ⊗ var 5 ⊖ var 1 ⊗ var 4) (f.others j l) ⊞ negative (var 5) r ⊠ le (var 0 ⊗ var 3) (var 1 ⊗ var 2) (<→≤ h)) tt
      ]

  -- none falls, or one is first
  some_first : (n : ℕ) → ((k : ℕ) → k < n → NN (a k)) → ((k : ℕ) → k < n → NN (b k)) ⊎ First n
  some_first zero ha = inl (λ k l. absurd (not-suc-le-zero l))
  some_first (suc n) ha = elim (some_first n (λ k l. ha k (omega arith))) [
    | inl r ↦ elim (≤-or-> (pos 0) (b n)) [
      | inl l ↦ inl (extend (λ k. NN (b k)) r l)
      | inr l ↦ inr (record {
        k = n;
        below = omega arith;
        falls = l;
        others = extend (Lasts n) (λ j m. rising n j (ha n (omega arith)) (ha j (omega arith)) l (r j m)) (itself n);
      })
    ]
    | inr f ↦ elim (≤-or-> (b f.k *ℤ a n) (a f.k *ℤ b n)) [
      | inl l ↦ inr (record { k = f.k; below = omega (arith, f.below); falls = f.falls; others = extend (Lasts f.k) f.others (≤→nn l) })
      | inr l ↦ inr (sooner n f ha l)
    ]
  ]

  pub first : (n : ℕ) → ((k : ℕ) → k < n → NN (a k)) → (k : ℕ) → k < n → b k <ℤ pos 0 → First n
  first n ha k l h = elim (some_first n ha) [ inl r ↦ absurd (clash_ℤ h (r k l)) | inr f ↦ f ]
