-- A fraction a / b and the whole number nearest to it. Nothing here is about floats.
--     near-closest            `closest` is near
--     near-unique             no other number is
--     near-plus, near-minus   an even number more, or less from an even number
--     at_most, more-than, below, not-below   the ends of the range
-- Assumes nothing.
use Rattle.std.proofs.Common.{◌≡◌, ℕ, suc, ◌+◌, ◌-◌, ◌*◌, ◌/◌, ◌%◌, ◌<◌, ◌≤◌, not, T, eqb, sym, refl, ap, ◌∙◌, subst, le_of_suc-le-suc, mul-le-mul_right, mod-lt, suc-mul, add-mul, le_antisymm, lt_of_not-le, div-add-mod', arith, eqb→eq, leb→le}
use Prim.Native.Nat.{compare, Ordering}
use lib.Dec.{is_le, compare_is_eq, nleb→lt, eqb_refl}
use lib.Arith.{lt_of_le-ne}
use lib.Ieee.{nearest}
use lib.Ieee.Nearest.{closest}

-- c is a whole number nearest to a / b: twice the distance is at most 1, scaled by b; and where it is 1, at a tie, c is even
pub record Near (a b c : ℕ) : Type 0 where
  pub up : 2 * (c * b) ≤ 2 * a + b
  pub down : 2 * a ≤ 2 * (c * b) + b
  pub tie_up : 2 * (c * b) ≡ 2 * a + b → c % 2 ≡ 0
  pub tie_down : 2 * a ≡ 2 * (c * b) + b → c % 2 ≡ 0

le_of_not_lt : {m n : ℕ} → (m < n → ⊥) → n ≤ m
le_of_not_lt f = le_of_suc-le-suc (lt_of_not-le f)

-- ---- `closest` is near

abbrev Cmp : Ordering → ℕ → ℕ → Type 0
Cmp Ordering.lt a b = a < b
Cmp Ordering.eq a b = a ≡ b
Cmp Ordering.gt a b = b < a

cmp : (a b : ℕ) → Cmp (compare a b) a b
cmp a b = go (compare a b) (leb→le a b) (nleb→lt a b) (eqb→eq a b) (λ (e : a ≡ b). subst (λ (x : ℕ). T (eqb a x)) e (eqb_refl a))
  where
    go : (o : Ordering) → (T (is_le o) → a ≤ b) → (T (not (is_le o)) → b < a) → (T (compare_is_eq o) → a ≡ b) → (a ≡ b → T (compare_is_eq o)) → Cmp o a b
    go Ordering.lt h k e n = lt_of_le-ne (h tt) n
    go Ordering.eq h k e n = e tt
    go Ordering.gt h k e n = k tt

-- by how many times b, the number p of them, c * b is
by-rest : (a b c p r : ℕ) → 0 < b → a ≡ p + r → ((c * b ≡ p) × (r * 2 < b)) → Near a b c
by-rest a b c p r B e h = record { up = omega arith; down = omega arith; tie_up = λ t. omega arith; tie_down = λ t. omega arith }

by-more : (a b c p r : ℕ) → 0 < b → r < b → a ≡ p + r → ((c * b ≡ b + p) × (b < r * 2)) → Near a b c
by-more a b c p r B R e h = record { up = omega arith; down = omega arith; tie_up = λ t. omega arith; tie_down = λ t. omega arith }

by_tie : (a b c p r : ℕ) → 0 < b → a ≡ p + r → r * 2 ≡ b → c % 2 ≡ 0 → p ≤ c * b → c * b ≤ b + p → Near a b c
by_tie a b c p r B e h v l g = record { up = omega arith; down = omega arith; tie_up = λ t. v; tie_down = λ t. v }

even : (q : ℕ) → (q + q % 2) % 2 ≡ 0
even q = omega arith

tie-le : (q : ℕ) → q + q % 2 ≤ suc q
tie-le q = omega arith

tie_ge : (q : ℕ) → q ≤ q + q % 2
tie_ge q = omega arith

near-nearest : (a b q : ℕ) (o : Ordering) → 0 < b → a % b < b → a ≡ q * b + a % b → Cmp o (a % b * 2) b → Near a b (nearest q o)
near-nearest a b q Ordering.lt B R e c = by-rest a b q (q * b) (a % b) B e (refl, c)
near-nearest a b q Ordering.eq B R e c =
    by_tie a b (q + q % 2) (q * b) (a % b) B e c (even q) (mul-le-mul_right b (tie_ge q)) (subst (λ (x : ℕ). (q + q % 2) * b ≤ x) (suc-mul q b ∙ plus (q * b) b) (mul-le-mul_right b (tie-le q)))
  where
    plus : (x y : ℕ) → x + y ≡ y + x
    plus x y = omega arith
near-nearest a b q Ordering.gt B R e c = by-more a b (suc q) (q * b) (a % b) B R e (suc-mul q b ∙ plus (q * b) b, c)
  where
    plus : (x y : ℕ) → x + y ≡ y + x
    plus x y = omega arith

pub near-closest : (a b : ℕ) → 0 < b → Near a b (closest a b)
near-closest a b B = near-nearest a b (a / b) (compare (a % b * 2) b) B (mod-lt a B) (sym (div-add-mod' a b)) (cmp (a % b * 2) b)

-- ---- there is one such number

not-less : (a b c d : ℕ) → 0 < b → Near a b c → Near a b d → c < d → ⊥
not-less a b c d B m n l =
    let s : suc c * b ≤ d * b = mul-le-mul_right b l in
    let z : suc c * b ≡ c * b + b = suc-mul c b in
    let u : 2 * a ≡ 2 * (c * b) + b = omega arith in
    let v : 2 * (d * b) ≡ 2 * a + b = omega arith in
    let x : c % 2 ≡ 0 = m.tie_down u in
    let y : d % 2 ≡ 0 = n.tie_up v in
    let t : suc (suc c) * b ≤ d * b = mul-le-mul_right b (step x y l) in
    let w : suc (suc c) * b ≡ suc c * b + b = suc-mul (suc c) b in
    omega arith
  where
    step : c % 2 ≡ 0 → d % 2 ≡ 0 → c < d → suc (suc c) ≤ d
    step x y l = omega arith

pub near-unique : (a b c d : ℕ) → 0 < b → Near a b c → Near a b d → c ≡ d
near-unique a b c d B m n = le_antisymm (le_of_not_lt (not-less a b d c B n m)) (le_of_not_lt (not-less a b c d B m n))

-- ---- it moves with the fraction, by an even number of units

module _ (a b k c : ℕ) (even-k : k % 2 ≡ 0) (n : Near a b c) where
  pub near-plus : Near (a + k * b) b (c + k)
  near-plus =
      let e : (c + k) * b ≡ c * b + k * b = add-mul c k b in
      record { up = omega arith; down = omega arith; tie_up = λ t. let z : c % 2 ≡ 0 = n.tie_up (omega arith) in omega arith; tie_down = λ t. let z : c % 2 ≡ 0 = n.tie_down (omega arith) in omega arith }

  pub near-minus : a ≤ k * b → c ≤ k → Near (k * b - a) b (k - c)
  near-minus h l =
      let e : (k - c) * b + c * b ≡ k * b = sym (add-mul (k - c) c b) ∙ ap (λ (x : ℕ). x * b) (back l) in
      record { up = omega arith; down = omega arith; tie_up = λ t. let z : c % 2 ≡ 0 = n.tie_down (omega arith) in omega arith; tie_down = λ t. let z : c % 2 ≡ 0 = n.tie_up (omega arith) in omega arith }
    where
      back : c ≤ k → k - c + c ≡ k
      back l = omega arith

-- ---- its bounds from the fraction's

module _ (a b c : ℕ) (B : 0 < b) (n : Near a b c) where
  pub at_most : 2 * a ≤ 16385 * b → c ≤ 8192
  at_most h = le_of_not_lt (λ l. no (mul-le-mul_right b l) (λ t. far (n.tie_up t) l))
    where
      far : c % 2 ≡ 0 → 8192 < c → 8194 * b ≤ c * b
      far x y = mul-le-mul_right b (omega arith)

      no : 8193 * b ≤ c * b → (2 * (c * b) ≡ 2 * a + b → 8194 * b ≤ c * b) → ⊥
      no x y = let z : 8194 * b ≤ c * b = y (omega arith) in omega arith

  pub more-than : 16385 * b < 2 * a → 8192 < c
  more-than h = lt_of_not-le (λ l. no (mul-le-mul_right b l))
    where
      no : c * b ≤ 8192 * b → ⊥
      no x = omega arith

  pub below : 2 * a < 16383 * b → c ≤ 8191
  below h = le_of_not_lt (λ l. no (mul-le-mul_right b l))
    where
      no : 8192 * b ≤ c * b → ⊥
      no x = omega arith

  pub not-below : 16383 * b ≤ 2 * a → 8191 < c
  not-below h = lt_of_not-le (λ l. no (mul-le-mul_right b l) (λ t. far (n.tie_down t) l))
    where
      far : c % 2 ≡ 0 → c ≤ 8191 → c * b ≤ 8190 * b
      far x y = mul-le-mul_right b (omega arith)

      no : c * b ≤ 8191 * b → (2 * a ≡ 2 * (c * b) + b → c * b ≤ 8190 * b) → ⊥
      no x y = let z : c * b ≤ 8190 * b = y (omega arith) in omega arith
