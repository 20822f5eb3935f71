-- The rounding is the only one there is.
--     whole-only        a finite float has no other nearest whole number
--     whole-complete    a finite float whose nearest whole number is in the range is rounded to it
--     exact-rounded     a float that is a whole number exactly is rounded to it, or is outside
--     int-rounded       so is an `i32`, as a double
-- Assumes nothing.
use Rattle.std.specs.Prelude.{Ok, Err}
use mathlib.Core.Bool.{Bool, true, false, cond}
use mathlib.Core.Path.{◌≡◌, refl, sym, ap, ◌∙◌, subst}
use Prim.Native.Nat.{ℕ, suc, ◌+◌, ◌*◌, ◌<◌}
use native.Mathlib.Nat.{suc-mul, zero-lt-suc}
use native.Mathlib.Omega.{arith}
use lib.Dec.{T}
use lib.IntN.{ℤ, pos, negsuc, neg_ℤ, nat_abs, ◌+ℤ◌, ◌-ℤ◌, ◌*ℤ◌, neg_ℤ-neg_ℤ, +ℤ_invr}
use lib.Signed.{mag}
use lib.Ieee.{Float, nan, inf, fin, binary64, up, down, of_int}
use lib.Ieee.Fits.{down_pos}
use lib.Ieee.Nearest.{closest}
use Rattle.rounding.specs.declared.Unrounded.TheVariants.{OutOfRange}
use Rattle.rounding.specs.Rounding.{finite, scaled, unit, Nearest, whole_of, in_range, rounded_of, Rounds}
use Rattle.rounding.specs.Widening.{Equals}
use Rattle.rounding.proofs.Near.{Near, near-closest, near-unique}
use Rattle.rounding.proofs.Meaning.{distance, mirror}
use Rattle.rounding.proofs.Wholes.{int-value}

-- ---- there is no other
of-nearest : (a d c : ℕ) → Nearest (pos a) d (pos c) → Near a d c
of-nearest a d c n =
    let e = distance a (c * d) in
    let h = n.half in
    record { up = omega arith; down = omega arith; tie_up = λ t. n.even (omega arith); tie_down = λ t. n.even (omega arith) }

-- a number below 0 is too far from one that is not
far : (a d k : ℕ) → 0 < d → Nearest (pos a) d (negsuc k) → ⊥
far a d k D n =
    let e : nat_abs (pos a -ℤ negsuc k *ℤ pos d) ≡ a + suc k * d = ap (λ (z : ℤ). nat_abs (pos a +ℤ z)) (neg_ℤ-neg_ℤ (pos (suc k * d))) in
    omega (arith, n.half, suc-mul k d)

only-pos : (a d : ℕ) (r : ℤ) → 0 < d → Nearest (pos a) d r → r ≡ pos (closest a d)
only-pos a d (pos c) D n = ap pos (near-unique a d c (closest a d) D (of-nearest a d c n) (near-closest a d D))
only-pos a d (negsuc k) D n = absurd (far a d k D n)

pub whole-only : (x : Float) (r : ℤ) → T (finite x) → Nearest (scaled x) (unit x) r → r ≡ whole_of x
whole-only nan r t n = absurd t
whole-only (inf s) r t n = absurd t
whole-only (fin true m e) r t n =
    let a = m * up e in
    let plain = subst (λ (z : ℤ). Nearest z (down e) (neg_ℤ r)) (neg_ℤ-neg_ℤ (pos a)) (mirror (neg_ℤ (pos a)) r (down e) n) in
    sym (neg_ℤ-neg_ℤ r) ∙ ap neg_ℤ (only-pos a (down e) (neg_ℤ r) (down_pos e) plain)
whole-only (fin false m e) r t n = only-pos (m * up e) (down e) r (down_pos e) n

-- ---- so each float is rounded as it must be
finite-rounded : (x : Float) (r : ℤ) → T (finite x) → Nearest (scaled x) (unit x) r → rounded_of x ≡ cond (in_range r) (Ok r) (Err OutOfRange)
finite-rounded nan r t n = absurd t
finite-rounded (inf s) r t n = absurd t
finite-rounded (fin s m e) r t n = ap (λ (w : ℤ). cond (in_range w) (Ok w) (Err OutOfRange)) (sym (whole-only (fin s m e) r t n))

pub whole-complete : (x : Float) (r : ℤ) → Rounds x r → rounded_of x ≡ Ok r
whole-complete x r h = finite-rounded x r h.exact h.nearest ∙ go (in_range r) h.ranged
  where
    go : (b : Bool) → T b → cond b (Ok r) (Err OutOfRange) ≡ Ok r
    go true t = refl
    go false t = absurd t

-- ---- a whole number
unit-pos : (x : Float) → 0 < unit x
unit-pos nan = zero-lt-suc 0
unit-pos (inf s) = zero-lt-suc 0
unit-pos (fin s m e) = down_pos e

pub exact-rounded : (x : Float) (k : ℤ) → Equals x k → rounded_of x ≡ cond (in_range k) (Ok k) (Err OutOfRange)
exact-rounded x k v =
    let d = unit x in
    let e : nat_abs (scaled x -ℤ k *ℤ pos d) ≡ 0 = ap (λ (z : ℤ). nat_abs (z -ℤ k *ℤ pos d)) v.value ∙ ap nat_abs (+ℤ_invr (k *ℤ pos d)) in
    finite-rounded x k v.exact (record { half = omega arith; even = λ t. absurd (omega (arith, unit-pos x)) })

pub int-rounded : (k : ℤ) → mag k < 2147483648 → rounded_of (of_int binary64 k) ≡ cond (in_range k) (Ok k) (Err OutOfRange)
int-rounded k h = exact-rounded (of_int binary64 k) k (int-value k h)
