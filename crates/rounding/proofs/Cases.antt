-- What the tests of `nearest` say of a float, and what `rounded_of` is in each case.
--     sum-value, sum-le, difference   between the ends: the sum, and what is left of it
--     ranged, in-range                there the nearest number is in the range
--     too-low, too-high               beyond an end it is not
--     tested                          a number of the range is between the ends
-- Assumes nothing.
use Rattle.std.proofs.Common.{◌≡◌, Ok, Err, ℕ, zero, suc, ◌+◌, ◌-◌, ◌*◌, ◌<◌, ◌≤◌, Bool, true, false, cond, not, ◌&&◌, ◌||◌, T, eqb, ltb, leb, ℤ, pos, negsuc, ◌-ℤ◌, neg_ℤ, sym, refl, ap, ◌∙◌, subst, true≢false, le_of_suc-le-suc, not-suc-le-zero, mul-one, arith, le→leb, eqb→eq, ltb→lt, lt→ltb, nltb→le}
use lib.IntN.{pos-+ℤ-pos, +ℤ-neg_ℤ_cancel}
use lib.Dec.{eqb_refl}
use lib.Arith.{lt→nleb, lt_of_le-ne}
use lib.Ieee.{Float, nan, inf, fin, binary64, up, down, add, sum, lt, le, round}
use lib.Ieee.Fits.{down_pos, and_l, and_i}
use lib.Ieee.Exact.{HasValue}
use lib.Ieee.Nearest.{closest}
use Rattle.rounding.specs.declared.Unrounded.TheVariants.{OutOfRange}
use Rattle.rounding.proofs.Near.{Near, near-closest, at_most, more-than, below, not-below}
use Rattle.rounding.proofs.Sums.{shift, shift_is, mid, plus-value, minus-value}
use Rattle.rounding.specs.Rounding.{rounded_of, in_range, whole_of, is_whole}
use Rattle.rounding.specs.Inner.{refused_as}

-- -8,192.5 and 8,191.5
abbrev pub lowest : Float
lowest = fin true 16385 (negsuc 0)

abbrev pub highest : Float
highest = fin false 16383 (negsuc 0)

-- ---- what the tests say of the fraction

le-or : (a b : ℕ) (t : Bool) → T (ltb b a || (eqb a b && t)) → b ≤ a
le-or a b t h = go (ltb b a) (ltb→lt b a) h
  where
    go : (u : Bool) → (T u → b < a) → T (u || (eqb a b && t)) → b ≤ a
    go true l h = weak (l tt)
      where
        weak : b < a → b ≤ a
        weak x = omega arith
    go false l h = same (eqb→eq a b (and_l (eqb a b) t h))
      where
        same : a ≡ b → b ≤ a
        same x = omega arith

nle-or : (a b : ℕ) → T (not (ltb b a || (eqb a b && true))) → a < b
nle-or a b h = go (ltb b a) (nltb→le b a) (λ (e : a ≡ b). subst (λ (x : ℕ). T (eqb a x)) e (eqb_refl a)) h
  where
    go : (u : Bool) → (T (not u) → a ≤ b) → (a ≡ b → T (eqb a b)) → T (not (u || (eqb a b && true))) → a < b
    go true l r h = absurd h
    go false l r h = lt_of_le-ne (l tt) (λ e. no (eqb a b) (r e) h)
      where
        no : (v : Bool) → T v → T (not (v && true)) → ⊥
        no true x y = y
        no false x y = x

module _ (m : ℕ) (e : ℤ) where
  lo-yes : T (le lowest (fin true m e)) → 2 * (m * up e) ≤ 16385 * down e
  unfolding le
  lo-yes h = let l = le-or (16385 * 1 * down e) (m * up e * 2) _ h in omega arith

  lo-no : T (not (le lowest (fin true m e))) → 16385 * down e < 2 * (m * up e)
  unfolding le
  lo-no h = let l = nle-or (16385 * 1 * down e) (m * up e * 2) h in omega arith

  hi-yes : T (lt (fin false m e) highest) → 2 * (m * up e) < 16383 * down e
  unfolding lt
  hi-yes h = let l = ltb→lt (m * up e * 2) (16383 * 1 * down e) h in omega arith

  hi-no : T (not (lt (fin false m e) highest)) → 16383 * down e ≤ 2 * (m * up e)
  unfolding lt
  hi-no h = let l = nltb→le (m * up e * 2) (16383 * 1 * down e) h in omega arith

-- ---- in the range: the sum

abbrev pub sum_of : Float → ℕ
sum_of nan = 0
sum_of (inf s) = 0
sum_of (fin true m e) = mid - closest (m * up e) (down e)
sum_of (fin false m e) = closest (m * up e) (down e) + mid

module _ (m : ℕ) (e : ℤ) where
  near : Near (m * up e) (down e) (closest (m * up e) (down e))
  near = near-closest (m * up e) (down e) (down_pos e)

  within-lo : T (le lowest (fin true m e)) → closest (m * up e) (down e) ≤ 8192
  within-lo h = at_most (m * up e) (down e) (closest (m * up e) (down e)) (down_pos e) near (lo-yes m e h)

  within-hi : T (lt (fin false m e) highest) → closest (m * up e) (down e) ≤ 8191
  within-hi h = below (m * up e) (down e) (closest (m * up e) (down e)) (down_pos e) near (hi-yes m e h)

-- what `add` hands to `round`
sum-plus : (m : ℕ) (e : ℤ) → add binary64 (fin false m e) (fin false 3 (pos 51)) ≡ round binary64 false (m * up e + mid * down e) (down e)
unfolding add sum
sum-plus m e = ap (λ (x : ℕ). round binary64 false (x + mid * down e) (down e * 1)) (mul-one (m * up e)) ∙ ap (λ (x : ℕ). round binary64 false (m * up e + mid * down e) x) (mul-one (down e))

pick : {A : Type 0} (b : Bool) (x y : A) → T b → cond b x y ≡ x
pick true x y t = refl
pick false x y t = absurd t

skip : {A : Type 0} (b : Bool) (x y : A) → T (not b) → cond b x y ≡ y
skip true x y t = absurd t
skip false x y t = refl

sum-minus : (m : ℕ) (e : ℤ) → m * up e * 1 < mid * down e → add binary64 (fin true m e) (fin false 3 (pos 51)) ≡ round binary64 false (mid * down e - m * up e) (down e)
unfolding add sum
sum-minus m e h =
    pick (ltb (m * up e * 1) (mid * down e)) (round binary64 false (mid * down e - m * up e * 1) (down e * 1)) _ (lt→ltb (m * up e * 1) (mid * down e) h)
    ∙ ap (λ (x : ℕ). round binary64 false (mid * down e - x) (down e * 1)) (mul-one (m * up e))
    ∙ ap (λ (x : ℕ). round binary64 false (mid * down e - m * up e) x) (mul-one (down e))

under : (a d : ℕ) → 0 < d → 2 * a ≤ 16385 * d → a * 1 < mid * d
under a d D h = omega arith

no-inf : (s : Bool) → T (le lowest (inf s)) → T (lt (inf s) highest) → ⊥
unfolding le lt
no-inf true l h = l
no-inf false l h = h

no_nan : T (lt nan highest) → ⊥
unfolding lt
no_nan h = h

pub sum-value : (x : Float) → T (le lowest x) → T (lt x highest) → HasValue (add binary64 x shift) false (sum_of x) 1
sum-value nan l h = absurd (no_nan h)
sum-value (inf s) l h = absurd (no-inf s l h)
sum-value (fin true m e) l h =
    subst (λ (z : Float). HasValue z false (sum_of (fin true m e)) 1) (sym (ap (λ (y : Float). add binary64 (fin true m e) y) shift_is ∙ sum-minus m e (under (m * up e) (down e) (down_pos e) (lo-yes m e l))))
    (minus-value (m * up e) (down e) (down_pos e) (lo-yes m e l) (within-lo m e l))
sum-value (fin false m e) l h =
    subst (λ (z : Float). HasValue z false (sum_of (fin false m e)) 1) (sym (ap (λ (y : Float). add binary64 (fin false m e) y) shift_is ∙ sum-plus m e))
    (plus-value (m * up e) (down e) (down_pos e) (hi-yes m e h))

pub sum-le : (x : Float) → T (le lowest x) → T (lt x highest) → sum_of x ≤ 9007199254740992
sum-le nan l h = absurd (no_nan h)
sum-le (inf s) l h = absurd (no-inf s l h)
sum-le (fin true m e) l h = small (closest (m * up e) (down e))
  where
    small : (c : ℕ) → mid - c ≤ 9007199254740992
    small c = omega arith
sum-le (fin false m e) l h = small (closest (m * up e) (down e)) (within-hi m e h)
  where
    small : (c : ℕ) → c ≤ 8191 → c + mid ≤ 9007199254740992
    small c k = omega arith

-- the difference is the nearest whole number

back : (c : ℕ) → c ≤ 8192 → pos (mid - c) -ℤ pos mid ≡ neg_ℤ (pos c)
back zero h = refl
back (suc k) h = pick (ltb (mid - suc k) mid) (negsuc (mid - suc (mid - suc k))) (pos (mid - suc k - mid)) (lt→ltb (mid - suc k) mid (low k)) ∙ ap negsuc (same k h)
  where
    low : (k : ℕ) → mid - suc k < mid
    low k = omega arith

    same : (k : ℕ) → suc k ≤ 8192 → mid - suc (mid - suc k) ≡ k
    same k h = omega arith

pub difference : (x : Float) → T (le lowest x) → T (lt x highest) → pos (sum_of x) -ℤ pos mid ≡ whole_of x
difference nan l h = absurd (no_nan h)
difference (inf s) l h = absurd (no-inf s l h)
difference (fin true m e) l h = back (closest (m * up e) (down e)) (within-lo m e l)
difference (fin false m e) l h = ap (λ (z : ℤ). z -ℤ pos mid) (sym (pos-+ℤ-pos (closest (m * up e) (down e)) mid)) ∙ +ℤ-neg_ℤ_cancel (pos (closest (m * up e) (down e))) (pos mid)

-- ---- `rounded_of` in each case

in-lo : (c : ℕ) → c ≤ 8192 → T (in_range (neg_ℤ (pos c)))
in-lo zero h = tt
in-lo (suc k) h = and_i (leb k 8191) true (le→leb k 8191 (le_of_suc-le-suc h)) tt

out-lo : (c : ℕ) → 8192 < c → T (not (in_range (neg_ℤ (pos c))))
out-lo zero h = absurd (not-suc-le-zero h)
out-lo (suc k) h = nand (leb k 8191) (lt→nleb k 8191 (le_of_suc-le-suc h))
  where
    nand : (b : Bool) → T (not b) → T (not (b && true))
    nand true t = t
    nand false t = tt

pub ranged : (x : Float) → T (le lowest x) → T (lt x highest) → T (in_range (whole_of x))
ranged nan l h = absurd (no_nan h)
ranged (inf s) l h = absurd (no-inf s l h)
ranged (fin true m e) l h = in-lo (closest (m * up e) (down e)) (within-lo m e l)
ranged (fin false m e) l h = le→leb (closest (m * up e) (down e)) 8191 (within-hi m e h)

pub in-range : (x : Float) → T (le lowest x) → T (lt x highest) → rounded_of x ≡ Ok (whole_of x)
in-range nan l h = absurd (no_nan h)
in-range (inf s) l h = absurd (no-inf s l h)
in-range (fin s m e) l h = pick (in_range (whole_of (fin s m e))) (Ok (whole_of (fin s m e))) (Err OutOfRange) (ranged (fin s m e) l h)

nor-l : (x y : Bool) → T (not (x || y)) → T (not x)
nor-l true y h = h
nor-l false y h = tt

no-lo : (m : ℕ) (e : ℤ) → T (not (le lowest (fin false m e))) → ⊥
unfolding le
no-lo m e h = let d = down_pos e in let z = nltb→le 0 (16385 * 1 * down e + m * up e * 2) (nor-l (ltb 0 (16385 * 1 * down e + m * up e * 2)) _ h) in omega arith

no-hi : (m : ℕ) (e : ℤ) → T (not (lt (fin true m e) highest)) → ⊥
unfolding lt
no-hi m e h = let d = down_pos e in let z = nltb→le 0 (m * up e * 2 + 16383 * 1 * down e) h in omega arith

pub too-low : (x : Float) → T (not (le lowest x)) → rounded_of x ≡ Err (refused_as x)
too-low nan h = refl
too-low (inf s) h = refl
too-low (fin true m e) h =
    let c = closest (m * up e) (down e) in
    skip (in_range (neg_ℤ (pos c))) (Ok (neg_ℤ (pos c))) (Err OutOfRange) (out-lo c (more-than (m * up e) (down e) c (down_pos e) (near m e) (lo-no m e h)))
too-low (fin false m e) h = absurd (no-lo m e h)

pub too-high : (x : Float) → T (not (lt x highest)) → rounded_of x ≡ Err (refused_as x)
too-high nan h = refl
too-high (inf s) h = refl
too-high (fin true m e) h = absurd (no-hi m e h)
too-high (fin false m e) h =
    let c = closest (m * up e) (down e) in
    skip (leb c 8191) (Ok (pos c)) (Err OutOfRange) (lt→nleb c 8191 (not-below (m * up e) (down e) c (down_pos e) (near m e) (hi-no m e h)))

-- ---- back: a number of the range is between the ends
by-test : (x : Float) (b : Bool) → is_whole (rounded_of x) ≡ true → (T (not b) → rounded_of x ≡ Err (refused_as x)) → T b
by-test x true w f = tt
by-test x false w f = absurd (true≢false (sym w ∙ ap is_whole (f tt)))

pub tested : (x : Float) → is_whole (rounded_of x) ≡ true → T (le lowest x) × T (lt x highest)
tested x w = (by-test x (le lowest x) w (too-low x), by-test x (lt x highest) w (too-high x))

-- ---- what the code's tests say
pub holds : {b : Bool} → b ≡ true → T b
holds e = subst T (sym e) tt

pub fails : {b : Bool} → b ≡ false → T (not b)
fails e = subst (λ (x : Bool). T (not x)) (sym e) tt
