-- What `rounded_of` means: its number is the nearest to the float's exact value.
--     whole-nearest   `whole_of` is the nearest whole number of a finite float
--     says, told      so each answer says what it means
--     whole_back      a number of the range, as its answer
-- Assumes nothing.
use Rattle.std.proofs.Common.{◌≡◌, Result, Ok, Err, ℕ, zero, suc, ◌+◌, ◌-◌, ◌*◌, ◌%◌, ◌<◌, ◌≤◌, Bool, true, false, cond, not, T, ltb, ℤ, pos, negsuc, ◌-ℤ◌, ◌*ℤ◌, neg_ℤ, nat_abs, sym, refl, ap, ◌∙◌, subst, true≢false, zero-mul, arith, ltb→lt, nltb→le}
use lib.IntN.{neg_ℤ-neg_ℤ, neg_ℤ-+ℤ}
use lib.Ieee.{Float, nan, inf, fin, up, down}
use lib.Ieee.Fits.{down_pos}
use lib.Ieee.Nearest.{closest}
use Rattle.rounding.specs.declared.Unrounded.{Unrounded}
use Rattle.rounding.specs.declared.Unrounded.TheVariants.{OutOfRange}
use Rattle.rounding.specs.Rounding.{finite, scaled, unit, Nearest, whole_of, in_range, rounded_of, is_whole, millimetres, Says}
use Rattle.rounding.proofs.Near.{Near, near-closest}

-- ---- the distance of two natural numbers
by-test : (a b : ℕ) (t : Bool) → (T t → a < b) → (T (not t) → b ≤ a) → nat_abs (cond t (negsuc (b - suc a)) (pos (a - b))) ≡ a - b + (b - a)
by-test a b true l g = let h : a < b = l tt in omega arith
by-test a b false l g = let h : b ≤ a = g tt in omega arith

pub distance : (a b : ℕ) → nat_abs (pos a -ℤ pos b) ≡ a - b + (b - a)
distance a zero = omega arith
distance a (suc b) = by-test a (suc b) (ltb a (suc b)) (ltb→lt a (suc b)) (nltb→le a (suc b))

to-nearest : (a d c : ℕ) → Near a d c → Nearest (pos a) d (pos c)
to-nearest a d c n = let e = distance a (c * d) in record { half = go n.up n.down e; even = λ t. or t e }
  where
    go : 2 * (c * d) ≤ 2 * a + d → 2 * a ≤ 2 * (c * d) + d → nat_abs (pos a -ℤ pos (c * d)) ≡ a - c * d + (c * d - a) → 2 * nat_abs (pos a -ℤ pos (c * d)) ≤ d
    go u v e = omega arith

    or : 2 * nat_abs (pos a -ℤ pos (c * d)) ≡ d → nat_abs (pos a -ℤ pos (c * d)) ≡ a - c * d + (c * d - a) → c % 2 ≡ 0
    or t e = by (ltb a (c * d)) (ltb→lt a (c * d)) (nltb→le a (c * d))
      where
        by : (b : Bool) → (T b → a < c * d) → (T (not b) → c * d ≤ a) → c % 2 ≡ 0
        by true l g = let h : a < c * d = l tt in n.tie_up (omega arith)
        by false l g = let h : c * d ≤ a = g tt in n.tie_down (omega arith)

-- ---- the other sign
abs_neg : (z : ℤ) → nat_abs (neg_ℤ z) ≡ nat_abs z
abs_neg (pos zero) = refl
abs_neg (pos (suc n)) = refl
abs_neg (negsuc n) = refl

neg-times : (r : ℤ) (d : ℕ) → neg_ℤ r *ℤ pos d ≡ neg_ℤ (r *ℤ pos d)
neg-times (pos zero) d = ap pos (zero-mul d) ∙ sym (ap (λ (x : ℕ). neg_ℤ (pos x)) (zero-mul d))
neg-times (pos (suc n)) d = refl
neg-times (negsuc n) d = sym (neg_ℤ-neg_ℤ (pos (suc n * d)))

mirrored : (x r : ℤ) (d : ℕ) → nat_abs (neg_ℤ x -ℤ neg_ℤ r *ℤ pos d) ≡ nat_abs (x -ℤ r *ℤ pos d)
mirrored x r d =
    ap (λ (z : ℤ). nat_abs (neg_ℤ x -ℤ z)) (neg-times r d)
    ∙ ap nat_abs (sym (neg_ℤ-+ℤ x (neg_ℤ (r *ℤ pos d))))
    ∙ abs_neg (x -ℤ r *ℤ pos d)

pub mirror : (x r : ℤ) (d : ℕ) → Nearest x d r → Nearest (neg_ℤ x) d (neg_ℤ r)
mirror x r d n = record {
  half = subst (λ (y : ℕ). 2 * y ≤ d) (sym (mirrored x r d)) n.half;
  even = λ t. ap (λ (y : ℕ). y % 2) (abs_neg r) ∙ n.even (ap (λ (y : ℕ). 2 * y) (sym (mirrored x r d)) ∙ t);
}

-- ---- the theorem
pub whole-nearest : (x : Float) → T (finite x) → Nearest (scaled x) (unit x) (whole_of x)
whole-nearest nan t = absurd t
whole-nearest (inf s) t = absurd t
whole-nearest (fin s m e) t = go s
  where
    plain : Nearest (pos (m * up e)) (down e) (pos (closest (m * up e) (down e)))
    plain = to-nearest (m * up e) (down e) (closest (m * up e) (down e)) (near-closest (m * up e) (down e) (down_pos e))

    go : (s : Bool) → Nearest (scaled (fin s m e)) (down e) (whole_of (fin s m e))
    go true = mirror (pos (m * up e)) (pos (closest (m * up e) (down e))) (down e) plain
    go false = plain

pub says : (x : Float) → Says x (rounded_of x)
says nan = tt
says (inf s) = tt
says (fin s m e) = go (in_range (whole_of (fin s m e))) refl
  where
    go : (b : Bool) → in_range (whole_of (fin s m e)) ≡ b → Says (fin s m e) (cond b (Ok (whole_of (fin s m e))) (Err OutOfRange))
    go true t = record { exact = tt; nearest = whole-nearest (fin s m e) tt; ranged = subst T (sym t) tt }
    go false t = (tt, whole-nearest (fin s m e) tt, subst (λ (b : Bool). T (not b)) (sym t) tt)

-- The promise of `nearest`, by its answer.
pub told : (x : Float) {r : Result ℤ Unrounded} → r ≡ rounded_of x → (r ≡ rounded_of x) × Says x r
told x e = (e, subst (Says x) (sym e) (says x))

-- A number of the range, as its answer.
pub whole_back : (y : Result ℤ Unrounded) → is_whole y ≡ true → Ok (millimetres y) ≡ y
whole_back (Ok r) e = refl
whole_back (Err why) e = absurd (true≢false (sym e))
