-- A float near 0 plus 3 × 2 ^ 51 is a whole number: the one nearest to the float, a half to the even one, plus 3 × 2 ^ 51.
--     round_whole               a fraction with as many whole digits as the format keeps is rounded to a whole number
--     as-i64                    a float that is a whole number, cast
--     plus-value, minus-value   the sum, for a float of either sign
-- Assumes nothing.
use Rattle.std.proofs.Common.{◌≡◌, ℕ, suc, ◌+◌, ◌-◌, ◌*◌, ◌/◌, ◌%◌, ◌^◌, ◌<◌, ◌≤◌, min, true, false, ◌&&◌, T, eqb, ltb, leb, pos, sym, refl, ap, ◌∙◌, subst, true≢false, le_trans, le_of_eq, lt_of_lt_of_le, lt_of_le_of_lt, mul-le-mul_right, mul_assoc, mul_comm, div-lt_iff_lt-mul, mul-lt-mul_of_pos_right, mul-pos, lt_of_not-le, le-div_iff_mul-le, mul-one, mul_right_comm, not-le_of_lt, mul-div_cancel, arith, lit<, le→leb, lt→ltb, pow_pos, pow_mono, pow-add}
use Prim.Native.Nat.{compare}
use native.Mathlib.Nat.{mul-mod_left, eq_of_mul-eq-mul_right}
use lib.Pow.{pow-lt}
use lib.Ieee.{Float, nan, inf, fin, Format, binary64, prec, emax, low, up, down, size, units, round, of_bits, in_signed, to_signed, whole}
use lib.Ieee.Digits.{size-lt, size-le}
use lib.Ieee.Fits.{round_is, core, and_i, eq→eqb, down_pos, nearest-le}
use lib.Ieee.Exact.{HasValue, units_val}
use lib.Ieee.Nearest.{closest, closest_same}
use Rattle.rounding.proofs.Near.{near-closest, near-unique, near-plus, near-minus}

-- ---- a fraction that has as many whole digits as the format keeps is rounded to a whole number

join : (z p l : ℕ) → 0 < p → z ≤ p + l → p - 1 + l < z → z - p ≡ l
join z p l P a b = omega arith

-- from units of the smallest value to ones
ones : (x : Float) (q l : ℕ) → 0 < l → HasValue x false (q * l) l → HasValue x false q 1
ones nan q l p v = v
ones (inf t) q l p v = v
ones (fin t m e) q l p v = (v.0, mul-one (m * up e) ∙ eq_of_mul-eq-mul_right l p (m * up e) (q * down e) (v.1 ∙ mul_right_comm q l (down e)))

module _ (f : Format) (num den : ℕ) (D : 0 < den) (P : 0 < prec f) (R : prec f < suc (emax f)) (lo : 2 ^ (prec f - 1) * den ≤ num) (hi : num < 2 ^ prec f * den) where
  dropped : size (num * 2 ^ low f / den) - prec f ≡ low f
  dropped =
      let p = prec f in
      let l = low f in
      let n = num * 2 ^ l in
      let hi' : n < 2 ^ (p + l) * den =
      lt_of_lt_of_le (mul-lt-mul_of_pos_right hi (pow_pos l)) (le_of_eq (mul_right_comm (2 ^ p) den (2 ^ l) ∙ ap (λ (x : ℕ). x * den) (sym (pow-add 2 p l)))) in
      let lo' : 2 ^ (p - 1 + l) * den ≤ n =
      le_trans (le_of_eq (ap (λ (x : ℕ). x * den) (pow-add 2 (p - 1) l) ∙ mul_right_comm (2 ^ (p - 1)) (2 ^ l) den)) (mul-le-mul_right (2 ^ l) lo) in
      join (size (n / den)) p l P (size-le (n / den) (p + l) ((div-lt_iff_lt-mul D).1 hi'))
      (lt_of_not-le (λ (g : size (n / den) ≤ p - 1 + l). not-le_of_lt (lt_of_lt_of_le (size-lt (n / den)) (pow_mono g)) ((le-div_iff_mul-le D).1 lo')))

  round-units : round f false num den ≡ units f false (closest num den) (low f)
  round-units =
      let l = low f in
      let n = num * 2 ^ l in
      round_is f false num den
      ∙ ap (λ (k : ℕ). core f false n den k) dropped
      ∙ ap (λ (q : ℕ). units f false q l) (closest_same n (den * 2 ^ l) num den (mul-pos D (pow_pos l)) D (mul_right_comm num (2 ^ l) den ∙ mul_assoc num den (2 ^ l)))

  closest-le : closest num den ≤ 2 ^ prec f
  closest-le = le_trans (nearest-le (num / den) (compare (num % den * 2) den)) ((div-lt_iff_lt-mul D).1 hi)

  round_whole : HasValue (round f false num den) false (closest num den) 1
  round_whole =
      let l = low f in
      let q = closest num den in
      subst (λ (x : Float). HasValue x false q 1) (sym round-units)
      (ones (units f false q l) q (2 ^ l) (pow_pos l)
      (units_val f false q l
      (lt_of_le_of_lt (mul-le-mul_right (2 ^ l) closest-le)
      (subst (λ (x : ℕ). 2 ^ prec f * 2 ^ l < x) (mul_comm (2 ^ suc (emax f)) (2 ^ l) ∙ sym (pow-add 2 l (suc (emax f)))) (mul-lt-mul_of_pos_right (pow-lt R) (pow_pos l))))))

-- ---- a whole number as an `i64`

pub as-i64 : (x : Float) (q : ℕ) → q ≤ 2 ^ 53 → HasValue x false q 1 → T (in_signed binary64 63 x) × (to_signed 63 x ≡ pos q)
unfolding in_signed whole to_signed
as-i64 nan q h v = absurd v
as-i64 (inf t) q h v = absurd v
as-i64 (fin true m e) q h v = absurd (true≢false v.0)
as-i64 (fin false m e) q h v =
    let w : m * up e ≡ q * down e = sym (mul-one (m * up e)) ∙ v.1 in
    let d : m * up e / down e ≡ q = ap (λ (x : ℕ). x / down e) w ∙ mul-div_cancel q (down_pos e) in
    let r : m * up e % down e ≡ 0 = ap (λ (x : ℕ). x % down e) w ∙ mul-mod_left q (down e) in
    let k : q < 2 ^ 63 = lt_of_le_of_lt h (lit< tt) in
    (passes d r k, ap pos (cut d k))
  where
    passes : m * up e / down e ≡ q → m * up e % down e ≡ 0 → q < 2 ^ 63 → T (in_signed binary64 63 (fin false m e))
    passes d r k =
        and_i (eqb (m * up e % down e) 0 && leb (m * up e / down e) (2 ^ 53) && true) (ltb (m * up e / down e) (2 ^ 63))
        (and_i (eqb (m * up e % down e) 0 && leb (m * up e / down e) (2 ^ 53)) true
        (and_i (eqb (m * up e % down e) 0) (leb (m * up e / down e) (2 ^ 53)) (eq→eqb r) (le→leb (m * up e / down e) (2 ^ 53) (subst (λ (x : ℕ). x ≤ 2 ^ 53) (sym d) h))) tt)
        (lt→ltb (m * up e / down e) (2 ^ 63) (subst (λ (x : ℕ). x < 2 ^ 63) (sym d) k))

    cut : m * up e / down e ≡ q → q < 2 ^ 63 → min (m * up e / down e) (2 ^ 63 - 1) ≡ q
    cut d k = omega arith

-- ---- the sum with 3 * 2 ^ 51

abbrev pub shift : Float
shift = of_bits binary64 4843621399236968448

pub shift_is : shift ≡ fin false 3 (pos 51)
unfolding of_bits
shift_is = refl

abbrev pub mid : ℕ
mid = 6755399441055744

module _ (a d : ℕ) (D : 0 < d) where
  plus-is : closest (a + mid * d) d ≡ closest a d + mid
  plus-is = near-unique (a + mid * d) d (closest (a + mid * d) d) (closest a d + mid) D (near-closest (a + mid * d) d D) (near-plus a d mid (closest a d) refl (near-closest a d D))

  minus_is : a ≤ mid * d → closest a d ≤ mid → closest (mid * d - a) d ≡ mid - closest a d
  minus_is h l = near-unique (mid * d - a) d (closest (mid * d - a) d) (mid - closest a d) D (near-closest (mid * d - a) d D) (near-minus a d mid (closest a d) refl (near-closest a d D) h l)

  pub plus-value : 2 * a < 16383 * d → HasValue (round binary64 false (a + mid * d) d) false (closest a d + mid) 1
  plus-value h = subst (λ (q : ℕ). HasValue (round binary64 false (a + mid * d) d) false q 1) plus-is (round_whole binary64 (a + mid * d) d D (lit< tt) (lit< tt) (omega arith) (omega arith))

  pub minus-value : 2 * a ≤ 16385 * d → closest a d ≤ 8192 → HasValue (round binary64 false (mid * d - a) d) false (mid - closest a d) 1
  minus-value h l = subst (λ (q : ℕ). HasValue (round binary64 false (mid * d - a) d) false q 1) (minus_is (omega arith) (omega arith)) (round_whole binary64 (mid * d - a) d D (lit< tt) (lit< tt) (omega arith) (omega arith))
