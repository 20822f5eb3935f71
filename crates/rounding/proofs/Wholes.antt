-- What an `i32` is as an `f64`, exactly.
--     int-value                     an integer of fewer than 54 digits is a float exactly
--     as_int                        what `widen` answers of an `i32`
-- Assumes nothing.
use Rattle.std.proofs.Common.{◌≡◌, ℕ, suc, ◌*◌, ◌^◌, ◌<◌, Bool, true, false, ℤ, pos, negsuc, neg_ℤ, sym, ap, ◌∙◌, subst, true≢false, lt_of_lt_of_le, zero-lt-suc, mul-one, arith, lit≤, shl_lt}
use lib.Signed.{mag}
use lib.Ieee.{Float as F, nan, inf, fin, binary64, low, up, of_int, round}
use lib.Ieee.Exact.{HasValue, round_exact}
use Rattle.rounding.specs.declared.Number.{Number}
use Rattle.rounding.specs.declared.Number.TheVariants.{Int}
use Rattle.rounding.specs.Widening.{Equals, SameValue, widened_of}

-- ---- an integer of fewer than 54 digits is a float exactly
exact : (s : Bool) (n : ℕ) → n < 2 ^ 53 → HasValue (round binary64 s n 1) s n 1
exact s n h = round_exact binary64 s n 1 n (low binary64) (zero-lt-suc 0) h (shl-lt' n (lt_of_lt_of_le h (lit≤ tt))) (sym (mul-one (n * 2 ^ low binary64)))
  where
    shl-lt' : (n : ℕ) → n < 2 ^ 1024 → n * 2 ^ 1074 < 2 ^ 2098
    shl-lt' n k = shl_lt 1024 1074 k

of-pos : (x : F) (n : ℕ) → HasValue x false n 1 → Equals x (pos n)
of-pos nan n v = absurd v
of-pos (inf t) n v = absurd v
of-pos (fin true m e) n v = absurd (true≢false v.0)
of-pos (fin false m e) n v = record { exact = tt; value = ap pos (sym (mul-one (m * up e)) ∙ v.1) }

of-neg : (x : F) (n : ℕ) → HasValue x true (suc n) 1 → Equals x (negsuc n)
of-neg nan n v = absurd v
of-neg (inf t) n v = absurd v
of-neg (fin false m e) n v = absurd (true≢false (sym v.0))
of-neg (fin true m e) n v = record { exact = tt; value = ap (λ (y : ℕ). neg_ℤ (pos y)) (sym (mul-one (m * up e)) ∙ v.1) }

pub int-value : (k : ℤ) → mag k < 2147483648 → Equals (of_int binary64 k) k
unfolding of_int
int-value (pos n) h = of-pos (round binary64 false n 1) n (exact false n (lt_of_lt_of_le h (lit≤ tt)))
int-value (negsuc n) h = of-neg (round binary64 true (suc n) 1) n (exact true (suc n) (lt_of_lt_of_le (next h) (lit≤ tt)))
  where
    next : n < 2147483648 → suc n < 2147483649
    next h = omega arith

-- ---- what `widen` answers of an `i32`
pub as_int : {n : Number} {r : F} (k : ℤ) → n ≡ Int k → mag k < 2147483648 → r ≡ of_int binary64 k → (r ≡ widened_of n) × SameValue n r
as_int {r} k e h v = rw e (v, subst (λ (x : F). Equals x k) (sym v) (int-value k h))
