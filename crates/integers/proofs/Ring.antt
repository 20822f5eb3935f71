-- A ring solver for the integers. `ring ρ a b tt` proves that the expressions a and b have one value at ρ, where a − b has the normal form 0. antt computes
-- that form.
--     square : (x y : ℤ) → (x +ℤ y) *ℤ (x +ℤ y) ≡ x *ℤ x +ℤ pos 2 *ℤ x *ℤ y +ℤ y *ℤ y
--     square = ring2 (λ x y. (x ⊕ y) ⊗ (x ⊕ y)) (λ x y. x ⊗ x ⊕ num 2 ⊗ x ⊗ y ⊕ y ⊗ y) tt
-- Where the two differ, `tt` is refused, and the message shows the terms of a − b (`Left`).
-- A normal form is a sparse Horner polynomial: a constant, or `horner i p q`, which is xᵢ · p + q, with p over the variables from i on and q over those
-- after i. That order makes the form unique. Soundness does not rest on it.
use mathlib.Core.Path.{◌≡◌, refl, sym, ◌∙◌, ap, ap₂}
use mathlib.Core.List.{List, [], ◌∷◌, ◌++◌}
use Prim.Native.Nat.{ℕ, zero, suc, compare, Ordering}
use lib.Dec.{T, compare_is_eq, eqb→eq}
use lib.IntN.{ℤ, pos, negsuc, neg_ℤ, ◌+ℤ◌, ◌*ℤ◌, +ℤ_idl, +ℤ_idr, +ℤ_assoc, *ℤ_comm, zero-*ℤ, *ℤ-zero}
use Rattle.integers.proofs.Laws.{+-left-comm, swap4, *-distrib-l, *-distrib-r, *-assoc, *-left-comm, neg-*-l, one-*, sub-zero→eq}
use Rattle.integers.proofs.Expr.{Expr, lit, var, raw, ◌⊕◌, ◌⊖◌, ◌⊗◌, neg, nth, eval}

-- ---- normal forms
pub data Poly : Type 0 where
  const : ℤ → Poly
  horner : ℕ → Poly → Poly → Poly

abbrev pub ev : List ℤ → Poly → ℤ
ev ρ (const c) = c
ev ρ (horner i p q) = nth ρ i *ℤ ev ρ p +ℤ ev ρ q

-- a choice by an ordering, whose branches wait
abbrev pub pick : Ordering → (Unit {0} → Poly) → (Unit {0} → Poly) → (Unit {0} → Poly) → Poly
pick Ordering.lt a b c = a tt
pick Ordering.eq a b c = b tt
pick Ordering.gt a b c = c tt

-- `horner i p q`, without the term that is 0
abbrev pub tidy : ℕ → Poly → Poly → Poly
tidy i (const (pos zero)) q = q
tidy i (const (pos (suc n))) q = horner i (const (pos (suc n))) q
tidy i (const (negsuc n)) q = horner i (const (negsuc n)) q
tidy i (horner j a b) q = horner i (horner j a b) q

abbrev pub add_const : ℤ → Poly → Poly
add_const c (const d) = const (c +ℤ d)
add_const c (horner i p q) = horner i p (add_const c q)

-- the sum of `horner i p q` and s, where fp adds p and fq adds q
abbrev pub add_horner : ℕ → Poly → Poly → (Poly → Poly) → (Poly → Poly) → Poly → Poly
add_horner i p q fp fq (const c) = horner i p (fq (const c))
add_horner i p q fp fq (horner j r s) = pick (compare i j)
    (λ u. horner i p (fq (horner j r s)))
    (λ u. tidy i (fp r) (fq s))
    (λ u. horner j r (add_horner i p q fp fq s))

abbrev pub add : Poly → Poly → Poly
add (const c) s = add_const c s
add (horner i p q) s = add_horner i p q (λ t. add p t) (λ t. add q t) s

-- every coefficient times c, which is not 0; and times any c
abbrev pub scale : ℤ → Poly → Poly
scale c (const d) = const (c *ℤ d)
scale c (horner i p q) = horner i (scale c p) (scale c q)

abbrev pub mul_const : ℤ → Poly → Poly
mul_const (pos zero) s = const (pos zero)
mul_const (pos (suc n)) s = scale (pos (suc n)) s
mul_const (negsuc n) s = scale (negsuc n) s

abbrev pub mul_var : ℕ → Poly → Poly
mul_var i (const c) = tidy i (const c) (const (pos zero))
mul_var i (horner j p q) = pick (compare i j)
    (λ u. horner i (horner j p q) (const (pos zero)))
    (λ u. horner i (horner j p q) (const (pos zero)))
    (λ u. horner j (mul_var i p) (mul_var i q))

abbrev pub mul : Poly → Poly → Poly
mul (const c) s = mul_const c s
mul (horner i p q) s = add (mul_var i (mul p s)) (mul q s)

abbrev pub minus : Poly → Poly
minus p = scale (negsuc zero) p

abbrev pub variable : ℕ → Poly
variable i = horner i (const (pos 1)) (const (pos zero))

abbrev pub norm : Expr → Poly
norm (lit c) = const c
norm (var i) = variable i
norm (raw i) = variable i
norm (a ⊕ b) = add (norm a) (norm b)
norm (a ⊖ b) = add (norm a) (minus (norm b))
norm (a ⊗ b) = mul (norm a) (norm b)
norm (neg a) = minus (norm a)

-- ---- soundness
module _ (ρ : List ℤ) where
  ev-pick : (o : Ordering) (a b c : Unit {0} → Poly) (z : ℤ) → ev ρ (a tt) ≡ z → (T (compare_is_eq o) → ev ρ (b tt) ≡ z) → ev ρ (c tt) ≡ z
      → ev ρ (pick o a b c) ≡ z
  ev-pick Ordering.lt a b c z f g h = f
  ev-pick Ordering.eq a b c z f g h = g tt
  ev-pick Ordering.gt a b c z f g h = h

  ev-tidy : (i : ℕ) (p q : Poly) → ev ρ (tidy i p q) ≡ nth ρ i *ℤ ev ρ p +ℤ ev ρ q
  ev-tidy i (const (pos zero)) q = sym (ap (λ x. x +ℤ ev ρ q) (*ℤ-zero (nth ρ i)) ∙ +ℤ_idl (ev ρ q))
  ev-tidy i (const (pos (suc n))) q = refl
  ev-tidy i (const (negsuc n)) q = refl
  ev-tidy i (horner j a b) q = refl

  ev-add_const : (c : ℤ) (s : Poly) → ev ρ (add_const c s) ≡ c +ℤ ev ρ s
  ev-add_const c (const d) = refl
  ev-add_const c (horner i p q) = ap (λ x. nth ρ i *ℤ ev ρ p +ℤ x) (ev-add_const c q) ∙ +-left-comm (nth ρ i *ℤ ev ρ p) c (ev ρ q)

  abbrev Adds : Poly → (Poly → Poly) → Type 0
  Adds p f = (t : Poly) → ev ρ (f t) ≡ ev ρ p +ℤ ev ρ t

  module _ (i : ℕ) (p q : Poly) (fp fq : Poly → Poly) (hp : Adds p fp) (hq : Adds q fq) where
    ev-tail : (t : Poly) → ev ρ (horner i p (fq t)) ≡ ev ρ (horner i p q) +ℤ ev ρ t
    ev-tail t = ap (λ x. nth ρ i *ℤ ev ρ p +ℤ x) (hq t) ∙ sym (+ℤ_assoc (nth ρ i *ℤ ev ρ p) (ev ρ q) (ev ρ t))

    ev-both : (j : ℕ) (r s : Poly) → i ≡ j → ev ρ (tidy i (fp r) (fq s)) ≡ ev ρ (horner i p q) +ℤ ev ρ (horner j r s)
    ev-both j r s e =
        ev-tidy i (fp r) (fq s)
        ∙ ap₂ ◌+ℤ◌ (ap (λ x. nth ρ i *ℤ x) (hp r) ∙ *-distrib-l (nth ρ i) (ev ρ p) (ev ρ r)) (hq s)
        ∙ swap4 (nth ρ i *ℤ ev ρ p) (nth ρ i *ℤ ev ρ r) (ev ρ q) (ev ρ s)
        ∙ ap (λ k. ev ρ (horner i p q) +ℤ (nth ρ k *ℤ ev ρ r +ℤ ev ρ s)) e

    ev-add_horner : (s : Poly) → ev ρ (add_horner i p q fp fq s) ≡ ev ρ (horner i p q) +ℤ ev ρ s
    ev-add_horner (const c) = ev-tail (const c)
    ev-add_horner (horner j r s) =
        ev-pick (compare i j) (λ u. horner i p (fq (horner j r s))) (λ u. tidy i (fp r) (fq s)) (λ u. horner j r (add_horner i p q fp fq s))
        (ev ρ (horner i p q) +ℤ ev ρ (horner j r s))
        (ev-tail (horner j r s))
        (λ t. ev-both j r s (eqb→eq i j t))
        (ap (λ x. nth ρ j *ℤ ev ρ r +ℤ x) (ev-add_horner s) ∙ +-left-comm (nth ρ j *ℤ ev ρ r) (ev ρ (horner i p q)) (ev ρ s))

  ev-add : (p s : Poly) → ev ρ (add p s) ≡ ev ρ p +ℤ ev ρ s
  ev-add (const c) s = ev-add_const c s
  ev-add (horner i p q) s = ev-add_horner i p q (λ t. add p t) (λ t. add q t) (λ t. ev-add p t) (λ t. ev-add q t) s

  ev-scale : (c : ℤ) (s : Poly) → ev ρ (scale c s) ≡ c *ℤ ev ρ s
  ev-scale c (const d) = refl
  ev-scale c (horner i p q) =
      ap₂ ◌+ℤ◌ (ap (λ x. nth ρ i *ℤ x) (ev-scale c p) ∙ *-left-comm (nth ρ i) c (ev ρ p)) (ev-scale c q)
      ∙ sym (*-distrib-l c (nth ρ i *ℤ ev ρ p) (ev ρ q))

  ev-mul_const : (c : ℤ) (s : Poly) → ev ρ (mul_const c s) ≡ c *ℤ ev ρ s
  ev-mul_const (pos zero) s = sym (zero-*ℤ (ev ρ s))
  ev-mul_const (pos (suc n)) s = ev-scale (pos (suc n)) s
  ev-mul_const (negsuc n) s = ev-scale (negsuc n) s

  ev-front : (i : ℕ) (r : Poly) → ev ρ (horner i r (const (pos zero))) ≡ nth ρ i *ℤ ev ρ r
  ev-front i r = +ℤ_idr (nth ρ i *ℤ ev ρ r)

  ev-mul_var : (i : ℕ) (s : Poly) → ev ρ (mul_var i s) ≡ nth ρ i *ℤ ev ρ s
  ev-mul_var i (const c) = ev-tidy i (const c) (const (pos zero)) ∙ +ℤ_idr (nth ρ i *ℤ c)
  ev-mul_var i (horner j p q) =
      let here : Unit {0} → Poly = λ u. horner i (horner j p q) (const (pos zero)) in
      ev-pick (compare i j) here here (λ u. horner j (mul_var i p) (mul_var i q)) (nth ρ i *ℤ ev ρ (horner j p q))
      (ev-front i (horner j p q))
      (λ t. ev-front i (horner j p q))
      (ap₂ ◌+ℤ◌ (ap (λ x. nth ρ j *ℤ x) (ev-mul_var i p) ∙ *-left-comm (nth ρ j) (nth ρ i) (ev ρ p)) (ev-mul_var i q)
      ∙ sym (*-distrib-l (nth ρ i) (nth ρ j *ℤ ev ρ p) (ev ρ q)))

  ev-mul : (p s : Poly) → ev ρ (mul p s) ≡ ev ρ p *ℤ ev ρ s
  ev-mul (const c) s = ev-mul_const c s
  ev-mul (horner i p q) s =
      ev-add (mul_var i (mul p s)) (mul q s)
      ∙ ap₂ ◌+ℤ◌ (ev-mul_var i (mul p s) ∙ ap (λ x. nth ρ i *ℤ x) (ev-mul p s) ∙ sym (*-assoc (nth ρ i) (ev ρ p) (ev ρ s))) (ev-mul q s)
      ∙ sym (*-distrib-r (nth ρ i *ℤ ev ρ p) (ev ρ q) (ev ρ s))

  ev-minus : (p : Poly) → ev ρ (minus p) ≡ neg_ℤ (ev ρ p)
  ev-minus p = ev-scale (negsuc zero) p ∙ neg-*-l (pos 1) (ev ρ p) ∙ ap neg_ℤ (one-* (ev ρ p))

  ev-variable : (i : ℕ) → ev ρ (variable i) ≡ nth ρ i
  ev-variable i = +ℤ_idr (nth ρ i *ℤ pos 1) ∙ *ℤ_comm (nth ρ i) (pos 1) ∙ one-* (nth ρ i)

  pub norm-sound : (e : Expr) → eval ρ e ≡ ev ρ (norm e)
  norm-sound (lit c) = refl
  norm-sound (var i) = sym (ev-variable i)
  norm-sound (raw i) = sym (ev-variable i)
  norm-sound (a ⊕ b) = ap₂ ◌+ℤ◌ (norm-sound a) (norm-sound b) ∙ sym (ev-add (norm a) (norm b))
  norm-sound (a ⊖ b) =
      ap₂ ◌+ℤ◌ (norm-sound a) (ap neg_ℤ (norm-sound b) ∙ sym (ev-minus (norm b))) ∙ sym (ev-add (norm a) (minus (norm b)))
  norm-sound (a ⊗ b) = ap₂ ◌*ℤ◌ (norm-sound a) (norm-sound b) ∙ sym (ev-mul (norm a) (norm b))
  norm-sound (neg a) = ap neg_ℤ (norm-sound a) ∙ sym (ev-minus (norm a))

-- ---- the solver
-- What a polynomial that is not the one hoped for leaves, as its terms: a coefficient and its variables. The type is empty. It is there to be read in the
-- message of a refused call: `Left (term (pos 2) (0 ∷ 3 ∷ []) ∷ [])` says that 2 x₀ x₃ is left.
pub data Term : Type 0 where
  term : ℤ → List ℕ → Term

pub data Left (l : List Term) : Type 0 where

abbrev pub terms : Poly → List ℕ → List Term
terms (const (pos zero)) m = []
terms (const (pos (suc n))) m = term (pos (suc n)) m ∷ []
terms (const (negsuc n)) m = term (negsuc n) m ∷ []
terms (horner i p q) m = terms p (i ∷ m) ++ terms q m

abbrev pub IsZero : Poly → Type 0
IsZero (const (pos zero)) = Unit {0}
IsZero (const (pos (suc n))) = Left (terms (const (pos (suc n))) [])
IsZero (const (negsuc n)) = Left (terms (const (negsuc n)) [])
IsZero (horner i p q) = Left (terms (horner i p q) [])

ev_zero : (ρ : List ℤ) (p : Poly) → IsZero p → ev ρ p ≡ pos zero
ev_zero ρ (const (pos zero)) t = refl
ev_zero ρ (const (pos (suc n))) t = elim t [ ]
ev_zero ρ (const (negsuc n)) t = elim t [ ]
ev_zero ρ (horner i p q) t = elim t [ ]

-- a and b have one normal form
abbrev pub Same : Expr → Expr → Type 0
Same a b = IsZero (norm (a ⊖ b))

pub ring : (ρ : List ℤ) (a b : Expr) → Same a b → eval ρ a ≡ eval ρ b
ring ρ a b t = sub-zero→eq (eval ρ a) (eval ρ b) (norm-sound ρ (a ⊖ b) ∙ ev_zero ρ (norm (a ⊖ b)) t)

-- the same, with the two sides as functions of the variables
pub ring1 : (f g : Expr → Expr) → Same (f (var 0)) (g (var 0)) → (x : ℤ) → eval (x ∷ []) (f (var 0)) ≡ eval (x ∷ []) (g (var 0))
ring1 f g t x = ring (x ∷ []) (f (var 0)) (g (var 0)) t

pub ring2 : (f g : Expr → Expr → Expr) → Same (f (var 0) (var 1)) (g (var 0) (var 1))
    → (x y : ℤ) → eval (x ∷ y ∷ []) (f (var 0) (var 1)) ≡ eval (x ∷ y ∷ []) (g (var 0) (var 1))
ring2 f g t x y = ring (x ∷ y ∷ []) (f (var 0) (var 1)) (g (var 0) (var 1)) t

pub ring4 : (f g : Expr → Expr → Expr → Expr → Expr) → Same (f (var 0) (var 1) (var 2) (var 3)) (g (var 0) (var 1) (var 2) (var 3))
    → (x y z w : ℤ) → eval (x ∷ y ∷ z ∷ w ∷ []) (f (var 0) (var 1) (var 2) (var 3)) ≡ eval (x ∷ y ∷ z ∷ w ∷ []) (g (var 0) (var 1) (var 2) (var 3))
ring4 f g t x y z w = ring (x ∷ y ∷ z ∷ w ∷ []) (f (var 0) (var 1) (var 2) (var 3)) (g (var 0) (var 1) (var 2) (var 3)) t
