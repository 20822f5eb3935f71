-- Numbers are passed in their order, and the first of those with a property is kept, by fraction and then by number.
--     begin   the lowest number with the property, where none below it is passed yet
--     pass    numbers that are passed over: none that has the property has a lesser fraction
--     meet    the next number, which has the property
--     whole   what is kept when all are passed is the first
-- Assumes nothing.
use mathlib.Core.Bool.{Bool, true, false, cond}
use mathlib.Core.Path.{◌≡◌, refl, sym, subst}
use Prim.Native.Nat.{ℕ, ◌+◌, ◌<◌, ◌≤◌}
use native.Mathlib.Decide.{dec_lt}
use native.Mathlib.Omega.{arith}
use lib.Signed.{≤ℤ_refl}
use Rattle.integers.proofs.Laws.{<→≤}
use Rattle.integers.proofs.Omega.{lt-true}
use Rattle.integers.proofs.Truth.{apart}
use Rattle.entry.specs.declared.Fraction.{Fraction}
use Rattle.entry.specs.Entry.{earlier}
use Rattle.entry.specs.Inner.{AtMost, Positive}
use Rattle.entry.proofs.Fractions.{not_earlier, at-most-trans, earlier-trans}
use Rattle.touch.proofs.Scan.{either}
use Rattle.first_hit.specs.declared.Best.{Best}
use Rattle.first_hit.specs.Inner.{IsFirst, FirstBelow, nearer_of}

module _ {p : ℕ → Bool} {f : ℕ → Fraction} where
  pub begin : {c n : ℕ} {at : Fraction} → p n ≡ true → ((m : ℕ) → m < n → p m ≡ false) → c ≤ n → at ≡ f n → FirstBelow p f c (record { cell = n; at = at })
  begin {c} {n} has none l is = record {
    has = has;
    is = is;
    least = λ m u q. absurd (apart q (none m (omega arith)));
    lowest = λ m u q. absurd (apart q (none m u));
    ahead = λ m u q. either (dec_lt m n) (λ v. absurd (apart q (none m v))) (λ v. omega arith);
  }

  pub pass : {c e : ℕ} {best : Best} → c ≤ e → ((m : ℕ) → c ≤ m → m < e → p m ≡ true → earlier (f m) best.at ≡ true → ⊥)
      → FirstBelow p f c best → FirstBelow p f e best
  pass {c} {e} {best} l never h = record {
    has = h.has;
    is = h.is;
    least = λ m u q. either (dec_lt m c) (λ v. h.least m v q) (λ v. later m (omega arith) u q (earlier (f m) best.at) refl);
    lowest = h.lowest;
    ahead = λ m u q. h.ahead m (omega arith) q;
  }
    where
      later : (m : ℕ) → c ≤ m → m < e → p m ≡ true → (t : Bool) → earlier (f m) best.at ≡ t → AtMost best.at (f m)
      later m v u q true w = absurd (never m v u q w)
      later m v u q false w = not_earlier (f m) best.at w

  module _ (positive : (n : ℕ) → Positive (f n)) where
    pub meet : {c : ℕ} {best : Best} {at : Fraction} → p c ≡ true → at ≡ f c → FirstBelow p f c best → FirstBelow p f (c + 1) (nearer_of best c at)
    meet {c} {best} has is h = subst (λ (g : Fraction). FirstBelow p f (c + 1) (nearer_of best c g)) (sym is) (go (earlier (f c) best.at) refl)
      where
        best-positive : Positive best.at
        best-positive = subst Positive (sym h.is) (positive best.cell)

        go : (t : Bool) → earlier (f c) best.at ≡ t → FirstBelow p f (c + 1) (cond t (record { cell = c; at = f c }) best)
        go true w = record {
          has = has;
          is = refl;
          least = λ m u q.
              either (dec_lt m c) (λ v. at-most-trans (f c) best.at (f m) (positive c) best-positive (positive m) (<→≤ (lt-true _ _ w)) (h.least m v q))
              (λ v. let e : c ≡ m = omega arith in subst (λ (n : ℕ). AtMost (f c) (f n)) e (≤ℤ_refl _));
          lowest = λ m u q. earlier-trans (f c) best.at (f m) (positive c) best-positive (positive m) w (h.least m u q);
          ahead = λ m u q. omega arith;
        }
        go false w = pass (omega arith) (λ m u v q t. let e : m ≡ c = omega arith in apart (subst (λ (n : ℕ). earlier (f n) best.at ≡ true) e t) w) h

  pub whole : {c : ℕ} {best : Best} → best.cell < c → FirstBelow p f c best → IsFirst p f c best.cell
  whole {best = best} l h = record {
    below = l;
    has = h.has;
    least = λ m u q. subst (λ (g : Fraction). AtMost g (f m)) h.is (h.least m u q);
    lowest = λ m u q. subst (λ (g : Fraction). earlier g (f m) ≡ true) h.is (h.lowest m u q);
  }
