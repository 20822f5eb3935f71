-- Laws of the number with the least fraction, of those that have a property.
--     first-is                  what is found: the first of them; or nothing, where none has the property
--     found_first, none_found   so a number that is found is the first, and where nothing is found none has the property
--     first_found, found_none   and back
--     nearest-same              properties and fractions that agree find the same
-- Assumes nothing.
use mathlib.Core.Bool.{Bool, true, false, cond}
use mathlib.Core.Path.{◌≡◌, refl, ap, subst}
use Prim.Native.Nat.{ℕ, zero, suc, ◌<◌}
use native.Mathlib.Decide.{ℕ_discrete, dec_lt}
use native.Mathlib.Omega.{arith}
use lib.Signed.{≤ℤ_refl, clash_ℤ}
use Rattle.integers.proofs.Laws.{<→≤}
use Rattle.integers.proofs.Omega.{lt-true}
use Rattle.integers.proofs.Truth.{apart}
use Rattle.entry.specs.declared.Fraction.{Fraction}
use Rattle.entry.specs.Entry.{earlier}
use Rattle.entry.specs.Inner.{Positive}
use Rattle.entry.proofs.Fractions.{not_earlier, at-most-trans, earlier-trans}
use Rattle.std.specs.Prelude.{Option, Some, None}
use Rattle.first_hit.specs.FirstHit.{or_nearer, nearest}
use Rattle.first_hit.specs.Inner.{IsFirst}

-- what is found says so much
abbrev pub Is : (ℕ → Bool) → (ℕ → Fraction) → ℕ → Option ℕ → Type 0
Is p f c (Some n) = IsFirst p f c n
Is p f c None = (m : ℕ) → m < c → p m ≡ false

below_suc : {A : ℕ → Type 0} (c : ℕ) → ((m : ℕ) → m < c → A m) → A c → (m : ℕ) → m < suc c → A m
below_suc {A} c h k m l = go (ℕ_discrete m c)
  where
    go : Dec (m ≡ c) → A m
    go (yes e) = rw e k
    go (no e) = h m (omega arith)

module _ (p : ℕ → Bool) (f : ℕ → Fraction) (positive : (n : ℕ) → Positive (f n)) where
  -- one number more
  with-next : (c : ℕ) (r : Option ℕ) (t : Bool) → p c ≡ t → Is p f c r → Is p f (suc c) (cond t (or_nearer f r c) r)
  with-next c None false e h = below_suc c h e
  with-next c None true e h = record {
    below = omega arith;
    has = e;
    least = below_suc c (λ m l q. absurd (apart q (h m l))) (λ q. ≤ℤ_refl _);
    lowest = λ m l q. absurd (apart q (h m l));
  }
  with-next c (Some n) false e h = record {
    below = omega (arith, h.below);
    has = h.has;
    least = below_suc c h.least (λ q. absurd (apart q e));
    lowest = h.lowest;
  }
  with-next c (Some n) true e h = go (earlier (f c) (f n)) refl
    where
      go : (t : Bool) → earlier (f c) (f n) ≡ t → Is p f (suc c) (cond t (Some c) (Some n))
      go true q = record {
        below = omega arith;
        has = e;
        least = below_suc c (λ m l u. at-most-trans (f c) (f n) (f m) (positive c) (positive n) (positive m) (<→≤ (lt-true _ _ q)) (h.least m l u)) (λ u. ≤ℤ_refl _);
        lowest = λ m l u. earlier-trans (f c) (f n) (f m) (positive c) (positive n) (positive m) q (h.least m l u);
      }
      go false q = record {
        below = omega (arith, h.below);
        has = h.has;
        least = below_suc c h.least (λ u. not_earlier (f c) (f n) q);
        lowest = h.lowest;
      }

  pub first-is : (c : ℕ) → Is p f c (nearest p f c)
  unfolding nearest
  first-is zero = λ m l. absurd (omega arith)
  first-is (suc c) = with-next c (nearest p f c) (p c) refl (first-is c)

  pub found_first : (c n : ℕ) → nearest p f c ≡ Some n → IsFirst p f c n
  found_first c n e = subst (Is p f c) e (first-is c)

  pub none_found : (c : ℕ) → nearest p f c ≡ None → (m : ℕ) → m < c → p m ≡ false
  none_found c e = subst (Is p f c) e (first-is c)

  -- of two firsts, the one with the higher number is less than the other, which is at most it
  one-first : (c n m : ℕ) → IsFirst p f c n → IsFirst p f c m → m < n → ⊥
  one-first c n m h k l = clash_ℤ (lt-true _ _ (h.lowest m l k.has)) (k.least n h.below h.has)

  pub first_found : (c n : ℕ) → IsFirst p f c n → nearest p f c ≡ Some n
  first_found c n h = go (nearest p f c) (first-is c)
    where
      go : (r : Option ℕ) → Is p f c r → r ≡ Some n
      go None k = absurd (apart h.has (k n h.below))
      go (Some m) k = same (dec_lt m n) (dec_lt n m)
        where
          same : Dec (m < n) → Dec (n < m) → Some m ≡ Some n
          same (yes l) d = absurd (one-first c n m h k l)
          same (no l) (yes u) = absurd (one-first c m n k h u)
          same (no l) (no u) = ap Some (omega arith)

  pub found_none : (c : ℕ) → ((m : ℕ) → m < c → p m ≡ false) → nearest p f c ≡ None
  found_none c h = go (nearest p f c) (first-is c)
    where
      go : (r : Option ℕ) → Is p f c r → r ≡ None
      go None k = refl
      go (Some m) k = absurd (apart k.has (h m k.below))

pub nearest-same : (p q : ℕ → Bool) (f h : ℕ → Fraction) (c : ℕ) → ((n : ℕ) → n < c → p n ≡ q n) → ((n : ℕ) → f n ≡ h n) → nearest p f c ≡ nearest q h c
unfolding nearest
nearest-same p q f h zero e d = refl
nearest-same p q f h (suc c) e d = λ i.
    let before = nearest-same p q f h c (λ n l. e n (omega arith)) d in
    cond (e c (omega arith) i) (or_nearer (λ n. d n i) (before i) c) (before i)
