-- Inequalities of integers by certificate. A `Fact ρ` is an expression with a proof that its value at ρ is not negative. Facts are made of hypotheses
-- (`nn`, `le`, `lt`, `eq`), of naturals (`nat`) and squares (`sq`), and of sums (`⊞`) and products (`⊠`) of facts.
-- `by_le ρ a b f tt` proves a ≤ b, where b − a is the fact f and a natural number more, as the ring solver finds.
--     means : (x y : ℤ) → (pos 2 *ℤ x *ℤ y) ≤ℤ (x *ℤ x +ℤ y *ℤ y)
--     means x y = let X = var 0 in let Y = var 1 in by_le (x ∷ y ∷ []) (num 2 ⊗ X ⊗ Y) (X ⊗ X ⊕ Y ⊗ Y) (sq (X ⊖ Y)) tt
-- Where `tt` is refused, the message shows what b − a has over f (`Left`).
use mathlib.Core.Path.{◌≡◌, sym, ◌∙◌, ap, subst}
use mathlib.Core.List.{List, []}
use Prim.Native.Nat.{ℕ, zero}
use lib.IntN.{ℤ, pos, negsuc, ◌+ℤ◌, ◌-ℤ◌, ◌*ℤ◌, *ℤ-zero, -ℤ-+ℤ_cancel, +ℤ_idl}
use lib.Signed.{◌≤ℤ◌, ◌<ℤ◌}
use Rattle.integers.proofs.Laws.{NN, nn-pos, nn-zero, nn-add, nn-mul, nn-sq, ≤→nn, nn→≤, <→nn, nn→<, <→≤, cancel-pos, eq→sub-zero, sub-zero→eq}
use Rattle.integers.proofs.Expr.{Expr, num, ◌⊕◌, ◌⊖◌, ◌⊗◌, eval}
use Rattle.integers.proofs.Ring.{Poly, const, horner, ev, norm, norm-sound, terms, Left, Same, ring}

-- ---- what is not negative
pub record Fact (ρ : List ℤ) : Type 0 where
  pub e : Expr
  pub ok : NN (eval ρ e)

abbrev pub nn : {ρ : List ℤ} (e : Expr) → NN (eval ρ e) → Fact ρ
nn e h = record { e = e; ok = h }

abbrev pub le : {ρ : List ℤ} (a b : Expr) → eval ρ a ≤ℤ eval ρ b → Fact ρ
le a b h = record { e = b ⊖ a; ok = ≤→nn h }

abbrev pub lt : {ρ : List ℤ} (a b : Expr) → eval ρ a <ℤ eval ρ b → Fact ρ
lt a b h = record { e = b ⊖ (a ⊕ num 1); ok = <→nn h }

pub times_zero : (m x y : ℤ) → x ≡ y → m *ℤ (y -ℤ x) ≡ pos zero
times_zero m x y h = ap (λ t. m *ℤ t) (eq→sub-zero y x (sym h)) ∙ *ℤ-zero m

-- an equation, times any expression
abbrev pub eq : {ρ : List ℤ} (m a b : Expr) → eval ρ a ≡ eval ρ b → Fact ρ
eq {ρ} m a b h = record { e = m ⊗ (b ⊖ a); ok = nn-zero (times_zero (eval ρ m) (eval ρ a) (eval ρ b) h) }

abbrev pub sq : {ρ : List ℤ} → Expr → Fact ρ
sq {ρ} a = record { e = a ⊗ a; ok = nn-sq (eval ρ a) }

abbrev pub nat : {ρ : List ℤ} → ℕ → Fact ρ
nat n = record { e = num n; ok = nn-pos n }

infixl 6 ◌⊞◌
infixl 7 ◌⊠◌
abbrev pub ◌⊞◌ : {ρ : List ℤ} → Fact ρ → Fact ρ → Fact ρ
f ⊞ g = record { e = f.e ⊕ g.e; ok = nn-add f.ok g.ok }

abbrev pub ◌⊠◌ : {ρ : List ℤ} → Fact ρ → Fact ρ → Fact ρ
f ⊠ g = record { e = f.e ⊗ g.e; ok = nn-mul f.ok g.ok }

-- ---- what is positive
pub record Pos (ρ : List ℤ) : Type 0 where
  pub e : Expr
  pub ok : pos zero <ℤ eval ρ e

abbrev pub ps : {ρ : List ℤ} (e : Expr) → pos zero <ℤ eval ρ e → Pos ρ
ps e h = record { e = e; ok = h }

-- as a fact: it is not negative, also when 1 is taken off
abbrev pub weak : {ρ : List ℤ} → Pos ρ → Fact ρ
weak f = record { e = f.e; ok = <→≤ f.ok }

abbrev pub strict : {ρ : List ℤ} → Pos ρ → Fact ρ
strict f = record { e = f.e ⊖ num 1; ok = <→nn f.ok }

-- ---- what follows from a fact
abbrev pub IsNat : Poly → Type 0
IsNat (const (pos n)) = Unit {0}
IsNat (const (negsuc n)) = Left (terms (const (negsuc n)) [])
IsNat (horner i p q) = Left (terms (horner i p q) [])

abbrev pub IsNeg : Poly → Type 0
IsNeg (const (pos n)) = Left (terms (const (pos n)) [])
IsNeg (const (negsuc n)) = Unit {0}
IsNeg (horner i p q) = Left (terms (horner i p q) [])

ev-nat : (ρ : List ℤ) (p : Poly) → IsNat p → NN (ev ρ p)
ev-nat ρ (const (pos n)) t = nn-pos n
ev-nat ρ (const (negsuc n)) t = elim t [ ]
ev-nat ρ (horner i p q) t = elim t [ ]

ev-neg : (ρ : List ℤ) (p : Poly) → IsNeg p → NN (ev ρ p) → ⊥
ev-neg ρ (const (pos n)) t h = elim t [ ]
ev-neg ρ (const (negsuc n)) t h = h.le
ev-neg ρ (horner i p q) t h = elim t [ ]

-- g is f and a natural more
abbrev pub Over : Expr → Expr → Type 0
Over g f = IsNat (norm (g ⊖ f))

pub by-nn : (ρ : List ℤ) (g : Expr) (f : Fact ρ) → Over g f.e → NN (eval ρ g)
by-nn ρ g f t =
    let rest = subst NN (sym (norm-sound ρ (g ⊖ f.e))) (ev-nat ρ (norm (g ⊖ f.e)) t) in
    subst NN (-ℤ-+ℤ_cancel (eval ρ g) (eval ρ f.e)) (nn-add rest f.ok)

pub by_le : (ρ : List ℤ) (a b : Expr) (f : Fact ρ) → Over (b ⊖ a) f.e → eval ρ a ≤ℤ eval ρ b
by_le ρ a b f t = nn→≤ (by-nn ρ (b ⊖ a) f t)

pub by-lt : (ρ : List ℤ) (a b : Expr) (f : Fact ρ) → Over (b ⊖ (a ⊕ num 1)) f.e → eval ρ a <ℤ eval ρ b
by-lt ρ a b f t = nn→< (by-nn ρ (b ⊖ (a ⊕ num 1)) f t)

-- a fact that is a negative number: the hypotheses clash
pub by-false : (ρ : List ℤ) (f : Fact ρ) → IsNeg (norm f.e) → ⊥
by-false ρ f t = ev-neg ρ (norm f.e) t (subst NN (norm-sound ρ f.e) f.ok)

-- the goal times a positive d
pub by-nn/ : (ρ : List ℤ) (d g : Expr) → pos zero <ℤ eval ρ d → (f : Fact ρ) → Over (d ⊗ g) f.e → NN (eval ρ g)
by-nn/ ρ d g h f t = cancel-pos h (by-nn ρ (d ⊗ g) f t)

pub by-le/ : (ρ : List ℤ) (d a b : Expr) → pos zero <ℤ eval ρ d → (f : Fact ρ) → Over (d ⊗ (b ⊖ a)) f.e → eval ρ a ≤ℤ eval ρ b
by-le/ ρ d a b h f t = nn→≤ (by-nn/ ρ d (b ⊖ a) h f t)

-- ---- equations: a sum of equations, each times any expression
pub record Zero (ρ : List ℤ) : Type 0 where
  pub e : Expr
  pub ok : eval ρ e ≡ pos zero

abbrev pub ze : {ρ : List ℤ} (m a b : Expr) → eval ρ a ≡ eval ρ b → Zero ρ
ze {ρ} m a b h = record { e = m ⊗ (b ⊖ a); ok = times_zero (eval ρ m) (eval ρ a) (eval ρ b) h }

pub zero-add : {x y : ℤ} → x ≡ pos zero → y ≡ pos zero → x +ℤ y ≡ pos zero
zero-add {x} {y} p q = ap (λ t. t +ℤ y) p ∙ +ℤ_idl y ∙ q

infixl 6 ◌⊹◌
abbrev pub ◌⊹◌ : {ρ : List ℤ} → Zero ρ → Zero ρ → Zero ρ
f ⊹ g = record { e = f.e ⊕ g.e; ok = zero-add f.ok g.ok }

pub by-eq : (ρ : List ℤ) (a b : Expr) (z : Zero ρ) → Same (b ⊖ a) z.e → eval ρ a ≡ eval ρ b
by-eq ρ a b z t = sym (sub-zero→eq (eval ρ b) (eval ρ a) (ring ρ (b ⊖ a) z.e t ∙ z.ok))
