-- Laws of numbers in base ten.
--     decimal_digit    a number below ten is one digit
--     decimal-more     any other is the digits of its tenth, and one digit more
--     decimal-most     a number of 64 bits has at most 20 digits
--     decimal-length   a number below 10 to the k has at most k digits
--     printed          what the library prints of a number, and of one with a sign
-- Assumes nothing.
use mathlib.Core.List.{List, ◌∷◌, ◌++◌}
use mathlib.Core.Path.{◌≡◌, refl, sym, ap, ◌∙◌}
use Prim.Native.Nat.{ℕ, zero, suc, ◌+◌, ◌/◌, ◌%◌, ◌^◌, ◌<◌, ◌≤◌}
use native.Mathlib.Nat.{pow-suc}
use native.Mathlib.Decide.{dec_lt}
use native.Mathlib.Omega.{arith}
use borrow.Author.Tests.{lt-ltb, le-ltb}
use lib.ListN.{length, length-append}
use lib.IntN.{ℤ, pos, negsuc}
use lib.Signed.{mag}
use Rattle.std.specs.Fmt.{decimal as shown, signed_decimal as signed_shown}
use Rattle.std.proofs.lemmas.Fmt.{AppendsLastDigit, decimal_from_appends, length-decimal-le_succ}
use Rattle.text.specs.Text.{figure, digits, decimal, signed_decimal}

-- More digits than enough change nothing.
enough : (f g n : ℕ) → n ≤ f → n ≤ g → digits f n ≡ digits g n
unfolding digits
enough zero zero n hf hg = refl
enough zero (suc g) n hf hg = rw (lt-ltb n 10 (omega arith))
enough (suc f) zero n hf hg = rw (lt-ltb n 10 (omega arith))
enough (suc f) (suc g) n hf hg = rw (enough f g (n / 10) (omega arith) (omega arith))

pub decimal_digit : (n : ℕ) → n < 10 → decimal n ≡ figure n
unfolding decimal digits
decimal_digit zero h = refl
decimal_digit (suc n) h = rw (lt-ltb (suc n) 10 h)

pub decimal-more : (n : ℕ) → 10 ≤ n → decimal n ≡ decimal (n / 10) ++ figure (n % 10)
unfolding decimal digits
decimal-more zero h = absurd (omega arith)
decimal-more (suc n) h = rw (le-ltb (suc n) 10 h, enough n (suc n / 10) (suc n / 10) (omega arith) (omega arith))

pub decimal-length : (k n : ℕ) → n < 10 ^ suc k → length (decimal n) ≤ suc k
decimal-length zero n h = rw (decimal_digit n (omega arith)) (omega arith)
decimal-length (suc k) n h = go (dec_lt n 10) (decimal-length k (n / 10) (omega (arith, pow-suc 10 (suc k))))
  where
    go : Dec (n < 10) → length (decimal (n / 10)) ≤ suc k → length (decimal n) ≤ suc (suc k)
    go (yes l) ih = rw (decimal_digit n l) (omega arith)
    go (no l) ih = rw (decimal-more n (omega arith), length-append (decimal (n / 10)) (figure (n % 10))) (omega arith)

-- A number of 64 bits has at most 20 digits.
pub decimal-most : (n : ℕ) → n < 2 ^ 64 → length (decimal n) ≤ 20
decimal-most n h = decimal-length 19 n (omega arith)

-- ---- what the library prints
last : AppendsLastDigit digits
unfolding digits
last = record {
  one = λ k n h. rw (lt-ltb n 10 h) refl;
  more = λ k n h. rw (le-ltb n 10 h) refl;
}

pub printed : (n : ℕ) → n < 2 ^ 64 → shown n ≡ decimal n
unfolding decimal
printed n h = sym (enough n (n + 1) n (omega arith) (omega arith) ∙ decimal_from_appends digits last (n + 1) n h (length-decimal-le_succ n h))

pub signed-printed : (z : ℤ) → mag z < 2 ^ 63 → signed_shown z ≡ signed_decimal z
signed-printed (pos n) h = printed n (omega arith)
signed-printed (negsuc n) h = ap (λ (t : List ℕ). 45 ∷ t) (printed (suc n) (omega arith))

-- ---- how long a number is, of 64 bits and below 64
pub decimal_short : (n : ℕ) → n < 64 → length (decimal n) ≤ 2
decimal_short n h = decimal-length 1 n (omega arith)

pub ruleset sizes = (decimal-most, decimal_short)
