-- Counting by whole bytes.
--     count-more     the count of one number more; from-bit, bit-most   its bit
--     count-byte     of the cells of one byte more
--     ones-byte      byte q as a number
--     ones-to        the same end, by another name
--     ones-join      bytes, and bytes behind them, as one number; ones-little   of as many bytes as are wanted
--     count_most     no count is above the numbers counted
--     count_same     two properties that agree have one count
-- Assumes nothing.
use mathlib.Core.Bool.{Bool, true, false}
use mathlib.Core.List.{List}
use mathlib.Core.Path.{◌≡◌, refl, ap, ◌∙◌}
use Prim.Native.Nat.{ℕ, zero, suc, ◌+◌, ◌-◌, ◌*◌, ◌/◌, ◌%◌, ◌^◌, ◌<◌, ◌≤◌}
use native.Mathlib.Nat.{mod-lt, add-zero, div-one, div-eq_of_lt}
use native.Mathlib.Numerals.{add-one}
use native.Mathlib.Omega.{arith}
use lib.Count.{ones, ones_in, ones_step, ones_cat}
use lib.Dec.{eqb}
use lib.ListN.{get_or}
use lib.Pow.{shr-shr}
use Rattle.std.specs.Int.{from_bool}
use Rattle.map.specs.Map.{is_filled, bit, count_below}
use Rattle.map.specs.Inner.{OnesOf}

pub count_none : (p : ℕ → Bool) → count_below p 0 ≡ 0
unfolding count_below
count_none p = refl

pub count-more : (p : ℕ → Bool) (n : ℕ) → count_below p (n + 1) ≡ count_below p n + bit (p n)
unfolding count_below
count-more p n = rw (add-one n)

-- A truth as a bit, as the code has it.
pub from-bit : (b : Bool) → from_bool b ≡ bit b
from-bit true = refl
from-bit false = refl

pub bit-most : (b : Bool) → bit b ≤ 1
bit-most true = omega arith
bit-most false = omega arith

pub count_most : (p : ℕ → Bool) (n : ℕ) → count_below p n ≤ n
unfolding count_below
count_most p zero = omega arith
count_most p (suc n) = go (p n) (count_most p n)
  where
    go : (b : Bool) → count_below p n ≤ n → count_below p n + bit b ≤ suc n
    go true h = omega arith
    go false h = omega arith

pub count_same : (p q : ℕ → Bool) (n : ℕ) → ((m : ℕ) → m < n → p m ≡ q m) → count_below p n ≡ count_below q n
unfolding count_below
count_same p q zero h = refl
count_same p q (suc n) h = rw (count_same p q n (λ m l. h m (omega arith)), h n (omega arith))

-- ---- the bits of a byte
pub ones-zero : ones 0 ≡ 0
unfolding ones ones_in
ones-zero = refl

-- A cell's bit.
cell-bit : (s : List ℕ) (n : ℕ) → bit (is_filled s n) ≡ get_or s (n / 8) 0 / 2 ^ (7 - n % 8) % 2
unfolding is_filled
cell-bit s n = go (get_or s (n / 8) 0 / 2 ^ (7 - n % 8) % 2) (mod-lt (get_or s (n / 8) 0 / 2 ^ (7 - n % 8)) (omega arith))
  where
    go : (x : ℕ) → x < 2 → bit (eqb x 1) ≡ x
    go zero h = refl
    go (suc zero) h = refl
    go (suc (suc x)) h = absurd (omega arith)

module _ (s : List ℕ) (q : ℕ) (small : get_or s q 0 < 256) where
  -- The first i cells of byte q: the ones among its first i bits.
  part : (i : ℕ) → i ≤ 8 → count_below (is_filled s) (q * 8 + i) ≡ count_below (is_filled s) (q * 8) + ones (get_or s q 0 / 2 ^ (8 - i))
  part zero le =
      let none : ones (get_or s q 0 / 2 ^ (8 - zero)) ≡ 0 = ap ones (div-eq_of_lt small) ∙ ones-zero in
      omega (arith, ap (count_below (is_filled s)) (add-zero (q * 8)))
  part (suc i) le =
      let at : (q * 8 + i) / 8 ≡ q = omega arith in
      let shift : 7 - (q * 8 + i) % 8 ≡ 8 - suc i = omega arith in
      let more : 8 - i ≡ 8 - suc i + 1 = omega arith in
      let next : q * 8 + suc i ≡ q * 8 + i + 1 = omega arith in
      let cell : bit (is_filled s (q * 8 + i)) ≡ get_or s q 0 / 2 ^ (8 - suc i) % 2 = cell-bit s (q * 8 + i) ∙ rw (at, shift) in
      let half : get_or s q 0 / 2 ^ (8 - suc i) / 2 ≡ get_or s q 0 / 2 ^ (8 - i) = rw more (shr-shr (get_or s q 0) (8 - suc i) 1) in
      rw (next, count-more (is_filled s) (q * 8 + i)) (omega (arith, part i (omega arith), ones_step (get_or s q 0 / 2 ^ (8 - suc i)), ap ones half))

  pub count-byte : count_below (is_filled s) ((q + 1) * 8) ≡ count_below (is_filled s) (q * 8) + ones (get_or s q 0)
  count-byte =
      let e : (q + 1) * 8 ≡ q * 8 + 8 = omega arith in
      ap (count_below (is_filled s)) e ∙ part 8 (omega arith) ∙ ap (λ (x : ℕ). count_below (is_filled s) (q * 8) + ones x) (div-one (get_or s q 0))

-- ---- several bytes as one number
pub ones-byte : (s : List ℕ) (q : ℕ) {x : ℕ} → (x ≡ get_or s q 0) × (x < 256) → OnesOf s q (q + 1) x
ones-byte s q h = record { counted = rw h.0 (count-byte s q (rw h.0 at h.1)) }

pub ones-to : {s : List ℕ} {from to x : ℕ} (end : ℕ) → to ≡ end → OnesOf s from to x → OnesOf s from end x
ones-to end e o = rw e at o

pub ones-join : (k : ℕ) {s : List ℕ} {from mid to a b : ℕ} → a < 2 ^ k → OnesOf s from mid a → OnesOf s mid to b → OnesOf s from to (b * 2 ^ k + a)
ones-join k {a = a} {b = b} small first second = record { counted = omega (arith, ones_cat k b a small) }

-- The bytes from byte i + o on as one number, the first lowest.
abbrev pub little : List ℕ → (i o bytes : ℕ) → ℕ
little s i o zero = 0
little s i o (suc k) = little s i (suc o) k * 2 ^ 8 + get_or s (i + o) 0

pub ones-little : (s : List ℕ) → ((j : ℕ) → get_or s j 0 < 256) → (i o k : ℕ) → OnesOf s (i + o) (i + o + k) (little s i o k)
ones-little s b i o zero = record { counted = rw add-zero (omega (arith, ones-zero)) }
ones-little s b i o (suc k) =
    let next : i + suc o ≡ i + o + 1 = omega arith in
    ones-join 8 (b (i + o)) (ones-byte s (i + o) (refl, b (i + o))) (ones-to (i + o + suc k) (omega arith) (rw next at (ones-little s b i (suc o) k)))
