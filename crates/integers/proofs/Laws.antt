-- The ring laws and the order laws of ℤ that `lib.IntN` and `lib.Signed` leave out. `NN z` says that z is not negative: `a ≤ℤ b` is `NN (b -ℤ a)`.
--     more : (a b : ℤ) → NN a → NN b → NN (a *ℤ b +ℤ b)
--     more a b h k = nn-add (nn-mul h k) k
-- The library's `◌≤ℤ◌` and `◌<ℤ◌` bind tighter than `◌+ℤ◌` and `◌*ℤ◌`: write sums and products beside them in parentheses.
use mathlib.Core.Path.{◌≡◌, refl, sym, ◌∙◌, ap, ap₂, subst}
use mathlib.Core.Logic.{◌⊎◌, inl, inr}
use mathlib.Core.Bool.{Bool, true, false}
use Prim.Native.Nat.{ℕ, zero, suc, ◌*◌, ◌≤◌, ◌<◌}
use native.Mathlib.Omega.{arith}
use lib.Dec.{T, lt→ltb}
use lib.IntN.{ℤ, pos, negsuc, suc_ℤ, pred_ℤ, neg_ℤ, ◌+ℤ◌, ◌-ℤ◌, ◌*ℤ◌, +ℤ_idl, +ℤ_assoc, +ℤ_comm, +ℤ_invr, suc_ℤ-+ℤ, pred_ℤ-+ℤ, suc_ℤ-*ℤ, pred_ℤ-*ℤ, *ℤ_comm, zero-*ℤ}
use lib.Signed.{◌≤ℤ◌, ◌<ℤ◌, le_z, lt_z, lt_z_yes}
use Rattle.integers.proofs.Omega.{zarith, +!, -!, neg! }

-- ---- sums
pub +-left-comm : (a b c : ℤ) → a +ℤ (b +ℤ c) ≡ b +ℤ (a +ℤ c)
+-left-comm a b c = sym (+ℤ_assoc a b c) ∙ ap (λ x. x +ℤ c) (+ℤ_comm a b) ∙ +ℤ_assoc b a c

pub +-right-comm : (a b c : ℤ) → (a +ℤ b) +ℤ c ≡ (a +ℤ c) +ℤ b
+-right-comm a b c = +ℤ_assoc a b c ∙ ap (λ x. a +ℤ x) (+ℤ_comm b c) ∙ sym (+ℤ_assoc a c b)

pub swap4 : (p q r s : ℤ) → (p +ℤ q) +ℤ (r +ℤ s) ≡ (p +ℤ r) +ℤ (q +ℤ s)
swap4 p q r s = +ℤ_assoc p q (r +ℤ s) ∙ ap (λ x. p +ℤ x) (+-left-comm q r s) ∙ sym (+ℤ_assoc p r (q +ℤ s))

pub neg_unique : (x y : ℤ) → x +ℤ y ≡ pos zero → y ≡ neg_ℤ x
neg_unique x y h = omega (zarith, +! x y, neg! x)

pub sub-zero→eq : (x y : ℤ) → x -ℤ y ≡ pos zero → x ≡ y
sub-zero→eq x y h = omega (zarith, -! x y)

pub eq→sub-zero : (x y : ℤ) → x ≡ y → x -ℤ y ≡ pos zero
eq→sub-zero x y h = omega (zarith, -! x y)

-- ---- products, by induction from 0 up and down
ind {ℓ} : (P : ℤ → Type ℓ) → P (pos zero) → ((k : ℤ) → P k → P (suc_ℤ k)) → ((k : ℤ) → P k → P (pred_ℤ k)) → (k : ℤ) → P k
ind P z s p (pos zero) = z
ind P z s p (pos (suc n)) = s (pos n) (ind P z s p (pos n))
ind P z s p (negsuc zero) = p (pos zero) z
ind P z s p (negsuc (suc n)) = p (negsuc n) (ind P z s p (negsuc n))

pub *-distrib-r : (a b c : ℤ) → (a +ℤ b) *ℤ c ≡ a *ℤ c +ℤ b *ℤ c
*-distrib-r a b c = ind (λ a. (a +ℤ b) *ℤ c ≡ a *ℤ c +ℤ b *ℤ c)
    (ap (λ x. x *ℤ c) (+ℤ_idl b) ∙ sym (+ℤ_idl (b *ℤ c)) ∙ ap (λ x. x +ℤ b *ℤ c) (sym (zero-*ℤ c)))
    (λ k h. ap (λ x. x *ℤ c) (suc_ℤ-+ℤ k b) ∙ suc_ℤ-*ℤ (k +ℤ b) c ∙ ap (λ x. x +ℤ c) h
    ∙ +-right-comm (k *ℤ c) (b *ℤ c) c ∙ ap (λ x. x +ℤ b *ℤ c) (sym (suc_ℤ-*ℤ k c)))
    (λ k h. ap (λ x. x *ℤ c) (pred_ℤ-+ℤ k b) ∙ pred_ℤ-*ℤ (k +ℤ b) c ∙ ap (λ x. x -ℤ c) h
    ∙ +-right-comm (k *ℤ c) (b *ℤ c) (neg_ℤ c) ∙ ap (λ x. x +ℤ b *ℤ c) (sym (pred_ℤ-*ℤ k c)))
    a

pub *-distrib-l : (a b c : ℤ) → a *ℤ (b +ℤ c) ≡ a *ℤ b +ℤ a *ℤ c
*-distrib-l a b c = *ℤ_comm a (b +ℤ c) ∙ *-distrib-r b c a ∙ ap₂ ◌+ℤ◌ (*ℤ_comm b a) (*ℤ_comm c a)

pub neg-*-l : (a b : ℤ) → neg_ℤ a *ℤ b ≡ neg_ℤ (a *ℤ b)
neg-*-l a b = neg_unique (a *ℤ b) (neg_ℤ a *ℤ b) (sym (*-distrib-r a (neg_ℤ a) b) ∙ ap (λ x. x *ℤ b) (+ℤ_invr a) ∙ zero-*ℤ b)

pub neg-*-r : (a b : ℤ) → a *ℤ neg_ℤ b ≡ neg_ℤ (a *ℤ b)
neg-*-r a b = *ℤ_comm a (neg_ℤ b) ∙ neg-*-l b a ∙ ap neg_ℤ (*ℤ_comm b a)

pub *-assoc : (a b c : ℤ) → (a *ℤ b) *ℤ c ≡ a *ℤ (b *ℤ c)
*-assoc a b c = ind (λ a. (a *ℤ b) *ℤ c ≡ a *ℤ (b *ℤ c))
    (ap (λ x. x *ℤ c) (zero-*ℤ b) ∙ zero-*ℤ c ∙ sym (zero-*ℤ (b *ℤ c)))
    (λ k h. ap (λ x. x *ℤ c) (suc_ℤ-*ℤ k b) ∙ *-distrib-r (k *ℤ b) b c ∙ ap (λ x. x +ℤ b *ℤ c) h ∙ sym (suc_ℤ-*ℤ k (b *ℤ c)))
    (λ k h. ap (λ x. x *ℤ c) (pred_ℤ-*ℤ k b) ∙ *-distrib-r (k *ℤ b) (neg_ℤ b) c ∙ ap₂ ◌+ℤ◌ h (neg-*-l b c) ∙ sym (pred_ℤ-*ℤ k (b *ℤ c)))
    a

pub *-left-comm : (a b c : ℤ) → a *ℤ (b *ℤ c) ≡ b *ℤ (a *ℤ c)
*-left-comm a b c = sym (*-assoc a b c) ∙ ap (λ x. x *ℤ c) (*ℤ_comm a b) ∙ *-assoc b a c

pub one-* : (a : ℤ) → pos 1 *ℤ a ≡ a
one-* a = suc_ℤ-*ℤ (pos zero) a ∙ ap (λ x. x +ℤ a) (zero-*ℤ a) ∙ +ℤ_idl a

-- ---- the order
abbrev pub NN : ℤ → Type 0
NN z = pos zero ≤ℤ z

pub ≤_trans : {a b c : ℤ} → a ≤ℤ b → b ≤ℤ c → a ≤ℤ c
≤_trans h k = omega zarith

pub ≤-antisymm : {a b : ℤ} → a ≤ℤ b → b ≤ℤ a → a ≡ b
≤-antisymm h k = omega zarith

pub ≤-of-eq : {a b : ℤ} → a ≡ b → a ≤ℤ b
≤-of-eq e = omega zarith

pub <→≤ : {a b : ℤ} → a <ℤ b → a ≤ℤ b
<→≤ h = omega zarith

pub ≤-or-> : (a b : ℤ) → (a ≤ℤ b) ⊎ (b <ℤ a)
≤-or-> a b = go (le_z a b) refl
  where
    go : (c : Bool) → le_z a b ≡ c → (a ≤ℤ b) ⊎ (b <ℤ a)
    go true e = inl (omega zarith)
    go false e = inr (omega zarith)

-- ---- naturals within the integers
pub pos-le : {m n : ℕ} → m ≤ n → pos m ≤ℤ pos n
pos-le h = omega zarith

pub pos-lt : {m n : ℕ} → m < n → pos m <ℤ pos n
pos-lt h = omega zarith

pub lt-pos : {m n : ℕ} → pos m <ℤ pos n → m < n
lt-pos h = omega zarith

pub nn-pos : (n : ℕ) → NN (pos n)
nn-pos n = omega zarith

pub nn-zero : {a : ℤ} → a ≡ pos zero → NN a
nn-zero e = omega zarith

-- ---- an order as a difference that is not negative
pub ≤→nn : {a b : ℤ} → a ≤ℤ b → NN (b -ℤ a)
≤→nn {a} {b} h = omega (zarith, -! b a)

pub nn→≤ : {a b : ℤ} → NN (b -ℤ a) → a ≤ℤ b
nn→≤ {a} {b} h = omega (zarith, -! b a)

pub <→≤1 : {a b : ℤ} → a <ℤ b → (a +ℤ pos 1) ≤ℤ b
<→≤1 {a} h = omega (zarith, +! a (pos 1))

pub ≤1→< : {a b : ℤ} → (a +ℤ pos 1) ≤ℤ b → a <ℤ b
≤1→< {a} h = omega (zarith, +! a (pos 1))

pub <→nn : {a b : ℤ} → a <ℤ b → NN (b -ℤ (a +ℤ pos 1))
<→nn h = ≤→nn (<→≤1 h)

pub nn→< : {a b : ℤ} → NN (b -ℤ (a +ℤ pos 1)) → a <ℤ b
nn→< h = ≤1→< (nn→≤ h)

-- ---- sums and products of what is not negative
pub nn-add : {a b : ℤ} → NN a → NN b → NN (a +ℤ b)
nn-add {a} {b} h k = omega (zarith, +! a b)

nn-mul' : (a b : ℤ) → T (le_z (pos zero) a) → T (le_z (pos zero) b) → NN (a *ℤ b)
nn-mul' (pos a) (pos b) h k = nn-pos (a * b)
nn-mul' (pos a) (negsuc b) h k = absurd k
nn-mul' (negsuc a) b h k = absurd h

pub nn-mul : {a b : ℤ} → NN a → NN b → NN (a *ℤ b)
nn-mul {a} {b} h k = nn-mul' a b h.le k.le

pub nn-sq : (a : ℤ) → NN (a *ℤ a)
nn-sq (pos a) = nn-pos (a * a)
nn-sq (negsuc a) = nn-pos (suc a * suc a)

<-mul' : (a b : ℤ) → T (lt_z (pos zero) a) → T (lt_z (pos zero) b) → T (lt_z (pos zero) (a *ℤ b))
<-mul' (pos zero) b h k = absurd h
<-mul' (pos (suc a)) (pos zero) h k = absurd k
<-mul' (pos (suc a)) (pos (suc b)) h k = lt→ltb zero (suc a * suc b) (omega arith)
<-mul' (pos (suc a)) (negsuc b) h k = absurd k
<-mul' (negsuc a) b h k = absurd h

pub <-mul : {a b : ℤ} → pos zero <ℤ a → pos zero <ℤ b → pos zero <ℤ (a *ℤ b)
<-mul {a} {b} h k = lt_z_yes (<-mul' a b h.lt k.lt)

-- a positive factor is taken out
pub cancel-pos : {d a : ℤ} → pos zero <ℤ d → NN (d *ℤ a) → NN a
cancel-pos {d} {a} h k = go (≤-or-> (pos zero) a)
  where
    go : NN a ⊎ (a <ℤ pos zero) → NN a
    go (inl p) = p
    go (inr n) =
        let m : pos zero <ℤ neg_ℤ a = omega (zarith, neg! a) in
        let p = subst (λ x. pos zero <ℤ x) (neg-*-r d a) (<-mul h m) in
        omega (zarith, neg! (d *ℤ a))

pub ≤-add : {a b c d : ℤ} → a ≤ℤ b → c ≤ℤ d → (a +ℤ c) ≤ℤ (b +ℤ d)
≤-add {a} {b} {c} {d} h k = omega (zarith, +! a c, +! b d)
