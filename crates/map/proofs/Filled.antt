-- What is read of a map after a cell was filled.
--     one-shl        1 shifted inside a byte is a power of 2
--     filled-with    of the map with cell n filled, every cell
--     length-with    the map is as long as it was
--     none-left      a cell of a byte with no filled cell but the first so many; first-left   the first that is filled
-- Assumes nothing.
use mathlib.Core.Bool.{true, false, ◌||◌}
use mathlib.Core.List.{List}
use mathlib.Core.Path.{◌≡◌, refl, sym, ap, ◌∙◌}
use Prim.Native.Nat.{ℕ, zero, suc, ◌+◌, ◌-◌, ◌*◌, ◌/◌, ◌%◌, ◌^◌, ◌<◌, ◌≤◌}
use native.Mathlib.Nat.{div_self, div-eq_of_lt, mod-lt, mod-eq_of_lt, one-mul, pow-suc}
use native.Mathlib.Decide.{ℕ_discrete, dec_lt}
use native.Mathlib.Omega.{arith}
use borrow.Author.Tests.{eq-eqb, ne_eqb}
use lib.Bits.{bit_and, bit_or, or_shr, or_mod, or_zero_r, shifted_even}
use lib.Dec.{eqb}
use lib.ListN.{length, get_or, set, length-set}
use lib.Pow.{pow_pos, pow-lt, pow-add, shl-shr, split, pow_mono}
use lib.Seq.{get_or-set_same, get_or-set_other}
use Rattle.std.specs.Int.{bit_at}
use Rattle.std.specs.Int.Count.{count_leading_zeros}
use Rattle.std.proofs.lemmas.Nat.{leading_top, and_mask}
use Rattle.std.proofs.lemmas.Nat.Bits.{bit_at_cat_low, bit_at_cat_high, bit_at-zero, bit_at_above, ones_shr}
use Rattle.map.specs.Map.{is_filled}
use Rattle.map.specs.Inner.{with_filled}

-- Bit j of 2 ^ k is clear for j ≠ k.
pow-bit : (j k : ℕ) → (j ≡ k → ⊥) → 2 ^ k / 2 ^ j % 2 ≡ 0
pow-bit j k ne = go (dec_lt j k)
  where
    go : Dec (j < k) → 2 ^ k / 2 ^ j % 2 ≡ 0
    go (yes h) =
        let e : suc (k - j - 1) + j ≡ k = omega arith in
        rw (← e, pow-add 2 (suc (k - j - 1)) j, shl-shr, ← one-mul (2 ^ suc (k - j - 1))) (shifted_even 1 (k - j - 1))
    go (no h) = rw (div-eq_of_lt (pow-lt {i = k} {j = j} (omega arith)))

or-one : (x : ℕ) → x < 2 → bit_or x 1 ≡ 1
or-one zero h = refl
or-one (suc zero) h = refl
or-one (suc (suc x)) h = absurd (omega arith)

bit-same : (b k : ℕ) → bit_or b (2 ^ k) / 2 ^ k % 2 ≡ 1
bit-same b k =
    rw (or_shr, div_self (pow_pos k), or_mod (b / 2 ^ k) 1 1) (or-one (b / 2 ^ k % 2) (mod-lt (b / 2 ^ k) (omega arith)))

bit-other : (b k j : ℕ) → (j ≡ k → ⊥) → bit_or b (2 ^ k) / 2 ^ j % 2 ≡ b / 2 ^ j % 2
bit-other b k j ne = rw (or_shr, or_mod (b / 2 ^ j) (2 ^ k / 2 ^ j) 1, pow-bit j k ne, or_zero_r)

module _ (s : List ℕ) (n : ℕ) (room : n < 8 * length s) where
  abbrev byte : ℕ
  byte = bit_or (get_or s (n / 8) 0) (2 ^ (7 - n % 8))

  same : is_filled (with_filled s n) n ≡ true
  unfolding is_filled with_filled
  same = rw (get_or-set_same s (n / 8) byte 0 (omega arith), bit-same)

  other : (m : ℕ) → (m ≡ n → ⊥) → is_filled (with_filled s n) m ≡ is_filled s m
  unfolding is_filled with_filled
  other m ne = go (ℕ_discrete (m / 8) (n / 8))
    where
      go : Dec (m / 8 ≡ n / 8) → eqb (get_or (set s (n / 8) byte) (m / 8) 0 / 2 ^ (7 - m % 8) % 2) 1 ≡ eqb (get_or s (m / 8) 0 / 2 ^ (7 - m % 8) % 2) 1
      go (yes e) =
          rw (e, get_or-set_same s (n / 8) byte 0 (omega arith), bit-other (get_or s (n / 8) 0) (7 - n % 8) (7 - m % 8) (λ q. ne (omega arith)))
      go (no e) = rw (get_or-set_other s (n / 8) (m / 8) byte 0 e)

  pub filled-with : (m : ℕ) → is_filled (with_filled s n) m ≡ (eqb m n || is_filled s m)
  filled-with m = go (ℕ_discrete m n)
    where
      go : Dec (m ≡ n) → is_filled (with_filled s n) m ≡ (eqb m n || is_filled s m)
      go (yes e) = rw (eq-eqb m n e, e) same
      go (no e) = rw (ne_eqb m n e) (other m e)

pub length-with : (s : List ℕ) (n : ℕ) → length (with_filled s n) ≡ length s
unfolding with_filled
length-with s n = length-set s (n / 8) (bit_or (get_or s (n / 8) 0) (2 ^ (7 - n % 8)))

-- ---- the cells of a byte but the first so many
-- Its last bits; and the first cell that they have.
abbrev pub last_bits : List ℕ → (q skip : ℕ) → ℕ
last_bits s q skip = get_or s q 0 % 2 ^ (8 - skip)

abbrev pub first_of : List ℕ → (q skip : ℕ) → ℕ
first_of s q skip = q * 8 + count_leading_zeros 8 (last_bits s q skip)

pub record FirstLeft (s : List ℕ) (q skip : ℕ) : Type 0 where
  pub low : q * 8 + skip ≤ first_of s q skip
  pub high : first_of s q skip < q * 8 + 8
  pub before : (n : ℕ) → q * 8 + skip ≤ n → n < first_of s q skip → is_filled s n ≡ false
  pub here : is_filled s (first_of s q skip) ≡ true

module _ (s : List ℕ) (q skip : ℕ) where
  abbrev left : ℕ
  left = last_bits s q skip

  -- As the code has them.
  pub masked : skip ≤ 8 → bit_and (get_or s q 0) (255 / 2 ^ skip) ≡ left
  masked h = ap (bit_and (get_or s q 0)) (ones_shr 8 skip h) ∙ and_mask (get_or s q 0) (8 - skip)

  pub none-at-all : get_or s q 0 ≡ 0 → left ≡ 0
  none-at-all e = rw e (mod-eq_of_lt (pow_pos (8 - skip)))

  cell : (n : ℕ) → q * 8 + skip ≤ n → n < q * 8 + 8 → is_filled s n ≡ eqb (bit_at left (7 - (n - q * 8))) 1
  unfolding is_filled
  cell n h l =
      let same : n / 8 ≡ q = omega arith in
      let place : 7 - n % 8 ≡ 7 - (n - q * 8) = omega arith in
      let i = 7 - (n - q * 8) in
      let low : bit_at (get_or s q 0) i ≡ bit_at left i =
      ap (λ (x : ℕ). bit_at x i) (sym (split (get_or s q 0) (8 - skip))) ∙ bit_at_cat_low (get_or s q 0 / 2 ^ (8 - skip)) (8 - skip) left i (omega arith) in
      rw (same, place) (ap (λ (x : ℕ). eqb x 1) low)

  pub none-left : left ≡ 0 → (n : ℕ) → q * 8 + skip ≤ n → n < q * 8 + 8 → is_filled s n ≡ false
  none-left e n h l = cell n h l ∙ rw (e, bit_at-zero) refl

  pub first-left : skip ≤ 7 → 0 < left → FirstLeft s q skip
  first-left within some = go (leading_top 8 left some (omega (arith, small, pow_mono {i = 8 - skip} {j = 8} (omega arith))))
    where
      small : left < 2 ^ (8 - skip)
      small = mod-lt (get_or s q 0) (pow_pos (8 - skip))

      go : (j : ℕ) × (count_leading_zeros 8 left + suc j ≡ 8) × (2 ^ j ≤ left) × (left < 2 ^ suc j)
          → FirstLeft s q skip
      go (j, zeros, low, high) =
          let wide : suc j ≤ 8 - skip = width (dec_lt j (8 - skip)) in
          let n = first_of s q skip in
          let place : 7 - (n - q * 8) ≡ j = omega arith in
          let one : 1 * 2 ^ j + (left - 2 ^ j) ≡ left = omega (arith, one-mul (2 ^ j)) in
          let top : bit_at (1 * 2 ^ j + (left - 2 ^ j)) j ≡ bit_at 1 (j - j) = bit_at_cat_high 1 j (left - 2 ^ j) j (omega (arith, pow-suc 2 j)) (omega arith) in
          let none : j - j ≡ 0 = omega arith in
          record {
            low = omega arith;
            high = omega arith;
            before = λ m h l. cell m h (omega arith) ∙ rw (bit_at_above left (suc j) (7 - (m - q * 8)) high (omega arith)) refl;
            here = cell n (omega arith) (omega arith) ∙ rw (place, ← one, top, none) refl;
          }
        where
          width : Dec (j < 8 - skip) → suc j ≤ 8 - skip
          width (yes l) = l
          width (no l) = absurd (omega (arith, small, low, pow_mono {i = 8 - skip} {j = j} (omega arith)))
