-- The integers for `omega`, which reads natural numbers only. An integer is a difference of two naturals, `above z` − `below z`, of which one is 0.
-- The rules of `zarith` state an order, an equation or a computed test of two integers by these naturals. So `omega zarith` proves one from those that are
-- in scope, where the sides are variables and literals:
--     chain : (x y z : ℤ) → x ≤ℤ y → lt_z y z ≡ true → z ≤ℤ pos 5 → x <ℤ pos 5
--     chain x y z h k l = omega zarith
-- Of an operation omega is told what it is made of, once for each that the goal or a fact names:
--     shift : (x y z : ℤ) → (x -ℤ y) ≤ℤ z → x ≤ℤ (y +ℤ z)
--     shift x y z h = omega (zarith, -! x y, +! y z)
use mathlib.Core.Path.{◌≡◌, refl, ap, subst}
use mathlib.Core.Bool.{Bool, true, false, not, cond}
use Prim.Native.Nat.{ℕ, zero, suc, ◌+◌, ◌-◌, ◌≤◌, ◌<◌, min}
use native.Mathlib.Nat.{lt_of_not-le, le_of_suc-le-suc}
use native.Mathlib.Omega.{arith}
use borrow.Author.Tests.{not-true}
use denote.Floats.{passes, is_true}
use lib.Dec.{T, not_T, ltb, ltb→lt, lt→ltb, nltb→le, leb→le, le→leb}
use lib.IntN.{ℤ, pos, negsuc, neg_ℤ, nat_abs, sub_ℕ, ◌+ℤ◌, ◌-ℤ◌}
use lib.Signed.{◌≤ℤ◌, ◌<ℤ◌, le_z, lt_z, mag, le_z_yes, lt_z_yes}

abbrev pub above : ℤ → ℕ
above (pos n) = n
above (negsuc n) = zero

abbrev pub below : ℤ → ℕ
below (pos n) = zero
below (negsuc n) = suc n

-- ---- the tests that define the order
le→nat : (x y : ℤ) → T (le_z x y) → below y + above x ≤ above y + below x
le→nat (pos a) (pos b) t = omega (arith, leb→le a b t)
le→nat (pos a) (negsuc b) t = absurd t
le→nat (negsuc a) (pos b) t = omega arith
le→nat (negsuc a) (negsuc b) t = omega (arith, leb→le b a t)

nat→le : (x y : ℤ) → below y + above x ≤ above y + below x → T (le_z x y)
nat→le (pos a) (pos b) h = le→leb a b (omega arith)
nat→le (pos a) (negsuc b) h = absurd (omega arith)
nat→le (negsuc a) (pos b) h = tt
nat→le (negsuc a) (negsuc b) h = le→leb b a (omega arith)

lt→nat : (x y : ℤ) → T (lt_z x y) → below y + above x < above y + below x
lt→nat (pos a) (pos b) t = omega (arith, ltb→lt a b t)
lt→nat (pos a) (negsuc b) t = absurd t
lt→nat (negsuc a) (pos b) t = omega arith
lt→nat (negsuc a) (negsuc b) t = omega (arith, ltb→lt b a t)

nat→lt : (x y : ℤ) → below y + above x < above y + below x → T (lt_z x y)
nat→lt (pos a) (pos b) h = lt→ltb a b (omega arith)
nat→lt (pos a) (negsuc b) h = absurd (omega arith)
nat→lt (negsuc a) (pos b) h = tt
nat→lt (negsuc a) (negsuc b) h = lt→ltb b a (omega arith)

is_false : (b : Bool) → (T b → ⊥) → b ≡ false
is_false b f = not-true b (is_true (not b) (not_T b f))

fails : (b : Bool) → b ≡ false → T b → ⊥
fails b e t = subst T e t

-- ---- rules that read a fact
pub ≤! : (x y : ℤ) → x ≤ℤ y → below y + above x ≤ above y + below x
≤! x y h = le→nat x y h.le

pub <! : (x y : ℤ) → x <ℤ y → below y + above x < above y + below x
<! x y h = lt→nat x y h.lt

pub ≡! : (x y : ℤ) → x ≡ y → below y + above x ≡ above y + below x
≡! x y h = omega (arith, ap above h, ap below h)

pub le_z! : (x y : ℤ) → le_z x y ≡ true → below y + above x ≤ above y + below x
le_z! x y e = le→nat x y (passes (le_z x y) e)

pub lt_z! : (x y : ℤ) → lt_z x y ≡ true → below y + above x < above y + below x
lt_z! x y e = lt→nat x y (passes (lt_z x y) e)

pub ¬le_z! : (x y : ℤ) → le_z x y ≡ false → above y + below x < below y + above x
¬le_z! x y e = lt_of_not-le (λ h. fails (le_z x y) e (nat→le x y h))

pub ¬lt_z! : (x y : ℤ) → lt_z x y ≡ false → above y + below x ≤ below y + above x
¬lt_z! x y e = le_of_suc-le-suc (lt_of_not-le (λ h. fails (lt_z x y) e (nat→lt x y h)))

-- ---- rules that prove a goal
pub !≤ : (x y : ℤ) → below y + above x ≤ above y + below x → x ≤ℤ y
!≤ x y h = le_z_yes (nat→le x y h)

pub !< : (x y : ℤ) → below y + above x < above y + below x → x <ℤ y
!< x y h = lt_z_yes (nat→lt x y h)

pub !≡ : (x y : ℤ) → below y + above x ≡ above y + below x → x ≡ y
!≡ (pos a) (pos b) h = ap pos (omega arith)
!≡ (pos a) (negsuc b) h = absurd (omega arith)
!≡ (negsuc a) (pos b) h = absurd (omega arith)
!≡ (negsuc a) (negsuc b) h = ap negsuc (omega arith)

pub !le_z : (x y : ℤ) → below y + above x ≤ above y + below x → le_z x y ≡ true
!le_z x y h = is_true (le_z x y) (nat→le x y h)

pub !lt_z : (x y : ℤ) → below y + above x < above y + below x → lt_z x y ≡ true
!lt_z x y h = is_true (lt_z x y) (nat→lt x y h)

pub !¬le_z : (x y : ℤ) → above y + below x < below y + above x → le_z x y ≡ false
!¬le_z x y h = is_false (le_z x y) (λ t. omega (arith, le→nat x y t))

pub !¬lt_z : (x y : ℤ) → above y + below x ≤ below y + above x → lt_z x y ≡ false
!¬lt_z x y h = is_false (lt_z x y) (λ t. omega (arith, lt→nat x y t))

pub ruleset zarith = (arith, ≤!, <!, ≡!, le_z!, lt_z!, ¬le_z!, ¬lt_z!, !≤, !<, !≡, !le_z, !lt_z, !¬le_z, !¬lt_z)

-- ---- what an operation is made of
cond_ind : (t : Bool) (x y : ℤ) (P : ℤ → Type 0) → (T t → P x) → (T (not t) → P y) → P (cond t x y)
cond_ind true x y P f g = f tt
cond_ind false x y P f g = g tt

sub! : (a b : ℕ) → above (sub_ℕ a b) + b ≡ below (sub_ℕ a b) + a
sub! a b =
    cond_ind (ltb a b) (negsuc (b - suc a)) (pos (a - b)) (λ z. above z + b ≡ below z + a)
    (λ t. omega (arith, ltb→lt a b t)) (λ t. omega (arith, nltb→le a b t))

pub +! : (x y : ℤ) → above (x +ℤ y) + (below x + below y) ≡ (above x + above y) + below (x +ℤ y)
+! (pos a) (pos b) = omega arith
+! (pos a) (negsuc b) = omega (arith, sub! a (suc b))
+! (negsuc a) (pos b) = omega (arith, sub! b (suc a))
+! (negsuc a) (negsuc b) = omega arith

pub neg! : (x : ℤ) → (above (neg_ℤ x) ≡ below x) × (below (neg_ℤ x) ≡ above x)
neg! (pos zero) = (refl, refl)
neg! (pos (suc n)) = (refl, refl)
neg! (negsuc n) = (refl, refl)

pub -! : (x y : ℤ) → above (x -ℤ y) + (below x + above y) ≡ (above x + below y) + below (x -ℤ y)
-! x y = omega (arith, +! x (neg_ℤ y), neg! y)

pub abs! : (x : ℤ) → (nat_abs x ≡ above x + below x) × (min (above x) (below x) ≡ 0)
abs! (pos n) = omega arith
abs! (negsuc n) = omega arith

pub mag! : (x : ℤ) → mag x ≡ above x + (below x - 1)
mag! (pos n) = omega arith
mag! (negsuc n) = omega arith

-- ---- a test's answer as an order, and the order as the test's answer, for a proof that wants a term
pub le-true : (x y : ℤ) → le_z x y ≡ true → x ≤ℤ y
le-true x y e = omega zarith

pub le-false : (x y : ℤ) → le_z x y ≡ false → y <ℤ x
le-false x y e = omega zarith

pub lt-true : (x y : ℤ) → lt_z x y ≡ true → x <ℤ y
lt-true x y e = omega zarith

pub lt-false : (x y : ℤ) → lt_z x y ≡ false → y ≤ℤ x
lt-false x y e = omega zarith

pub true-le : (x y : ℤ) → x ≤ℤ y → le_z x y ≡ true
true-le x y h = omega zarith

pub false-le : (x y : ℤ) → y <ℤ x → le_z x y ≡ false
false-le x y h = omega zarith

pub true-lt : (x y : ℤ) → x <ℤ y → lt_z x y ≡ true
true-lt x y h = omega zarith

pub false-lt : (x y : ℤ) → y ≤ℤ x → lt_z x y ≡ false
false-lt x y h = omega zarith
