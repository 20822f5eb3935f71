-- Bounds that compose: the size of a sum, a difference, a product or a negation from the sizes of its parts. A bound that is small enough says that the
-- number fits a signed machine integer. A bound is any natural number. `lit≤ tt` and `lit< tt` prove an order of two numerals.
--     area : {w h : ℤ} → Within 1000 w → Within 1000 h → SFits w32 (w *ℤ h)
--     area p q = within-fits (lit< tt) (within-mul p q)
use mathlib.Core.Path.{◌≡◌, refl}
use Prim.Native.Nat.{ℕ, suc, ◌+◌, ◌*◌, ◌^◌, ◌≤◌, ◌<◌}
use native.Mathlib.Nat.{mul-le-mul, le_trans}
use native.Mathlib.Omega.{arith}
use lib.IntN.{ℤ, pos, negsuc, neg_ℤ, nat_abs, ◌+ℤ◌, ◌-ℤ◌, ◌*ℤ◌}
use lib.Signed.{◌≤ℤ◌, nat_abs-le}
use mir.Syntax.{Width}
use mir.Val.{SFits, hbits}
use Rattle.integers.specs.Within.{Within}
use Rattle.integers.proofs.Omega.{zarith, +!, -!, neg!, abs!, mag! }

-- ---- a bound as an order
pub within_of : {B : ℕ} {z : ℤ} → neg_ℤ (pos B) ≤ℤ z → z ≤ℤ pos B → Within B z
within_of {B} {z} h k = record { within = omega (zarith, abs! z, neg! (pos B)) }

pub within-high : {B : ℕ} {z : ℤ} → Within B z → z ≤ℤ pos B
within-high {z = z} h = omega (zarith, abs! z)

-- a number between two that are bounded
pub within-between : {B : ℕ} {l z h : ℤ} → Within B l → Within B h → l ≤ℤ z → z ≤ℤ h → Within B z
within-between {l = l} {z} {h} p q a b = record { within = omega (zarith, abs! l, abs! z, abs! h) }

pub within-weaken : {A B : ℕ} {z : ℤ} → A ≤ B → Within A z → Within B z
within-weaken l h = record { within = le_trans h.within l }

-- ---- operations
pub within-add : {A B : ℕ} {a b : ℤ} → Within A a → Within B b → Within (A + B) (a +ℤ b)
within-add {a = a} {b} h k = record { within = omega (arith, +! a b, abs! a, abs! b, abs! (a +ℤ b)) }

pub within-sub : {A B : ℕ} {a b : ℤ} → Within A a → Within B b → Within (A + B) (a -ℤ b)
within-sub {a = a} {b} h k = record { within = omega (arith, -! a b, abs! a, abs! b, abs! (a -ℤ b)) }

pub within-neg : {A : ℕ} {a : ℤ} → Within A a → Within A (neg_ℤ a)
within-neg {a = a} h = record { within = omega (arith, neg! a, abs! a, abs! (neg_ℤ a)) }

pub abs_neg : (a : ℤ) → nat_abs (neg_ℤ a) ≡ nat_abs a
abs_neg a = omega (arith, neg! a, abs! a, abs! (neg_ℤ a))

pub abs-mul : (a b : ℤ) → nat_abs (a *ℤ b) ≡ nat_abs a * nat_abs b
abs-mul (pos a) (pos b) = refl
abs-mul (pos a) (negsuc b) = abs_neg (pos (a * suc b))
abs-mul (negsuc a) (pos b) = abs_neg (pos (suc a * b))
abs-mul (negsuc a) (negsuc b) = refl

pub within-mul : {A B : ℕ} {a b : ℤ} → Within A a → Within B b → Within (A * B) (a *ℤ b)
within-mul {a = a} {b} h k = record { within = rw (abs-mul a b) (mul-le-mul h.within k.within) }

-- ---- machine integers
pub within-fits : {w : Width} {B : ℕ} {z : ℤ} → B < 2 ^ hbits w → Within B z → SFits w z
within-fits {z = z} l h = record { sfits = omega (arith, l, mag! z, abs! z) }

pub fits-within : {w : Width} {z : ℤ} → SFits w z → Within (2 ^ hbits w) z
fits-within {z = z} f = record { within = nat_abs-le z f.sfits }
