-- What a field stores for a number is read as that number, and what it reads is stored as its bits.
--     encoded-lt, decoded-back   a number that the field can hold
--     Read, read-field           any bits
-- Assumes nothing.
use mathlib.Core.Bool.{true, and-eq-true_iff}
use mathlib.Core.List.{List}
use mathlib.Core.Path.{◌≡◌, refl, sym, ap, ◌∙◌}
use Prim.Native.Nat.{ℕ, suc, ◌+◌, ◌-◌, ◌%◌, ◌^◌, ◌<◌, ◌≤◌}
use native.Mathlib.Nat.{mod-eq_of_lt, one-mul, add_comm}
use native.Mathlib.Decide.{dec_lt}
use native.Mathlib.Omega.{arith}
use lib.IntN.{ℤ, pos, negsuc, neg_ℤ, nat_abs, ◌+ℤ◌, ◌-ℤ◌}
use lib.Pow.{low}
use lib.Signed.{le_z}
use Rattle.integers.proofs.Omega.{zarith, +!, -!, neg!, abs! }
use Rattle.bits.specs.Field.{field_at, twos_complement, signed_at, complement_of}
use Rattle.bits.proofs.Fields.{field_lt}
use Rattle.bits.proofs.Signs.{halves, low_half, high_half, signed_range}
use Rattle.layout.specs.Layout.{Coding, plain, less_one, signed, field, decoded}
use Rattle.layout_write.specs.Writing.{can_hold, encoded}
use Rattle.layout_write.proofs.Held.{plain-held, less-one-held, both}

-- ---- two's complement, by the sign
module _ (w : ℕ) where
  stored-high : (n : ℕ) → n < 2 ^ w → (n + 2 ^ w) % 2 ^ w ≡ n
  stored-high n h = ap (λ (m : ℕ). m % 2 ^ w) (add_comm n (2 ^ w) ∙ ap (λ (m : ℕ). m + n) (sym (one-mul (2 ^ w)))) ∙ low 1 w h

  complement-pos : (n : ℕ) → n < 2 ^ w → complement_of w (pos n) ≡ n
  complement-pos n h = stored-high n h

  -- a number below 0, as 2 ^ w − m
  complement-neg : (n : ℕ) → n < 2 ^ w → complement_of w (pos n -ℤ pos (2 ^ w)) ≡ n
  complement-neg n h =
      let sum : pos n -ℤ pos (2 ^ w) +ℤ pos (2 ^ w) ≡ pos n = omega (zarith, +! (pos n -ℤ pos (2 ^ w)) (pos (2 ^ w)), -! (pos n) (pos (2 ^ w))) in
      ap (λ (z : ℤ). nat_abs z % 2 ^ w) sum ∙ mod-eq_of_lt h

-- ---- what is stored is read
stored_back : (w : ℕ) → 1 ≤ w → (z : ℤ) → can_hold (field signed w) z ≡ true → (complement_of w z < 2 ^ w) × (twos_complement w (complement_of w z) ≡ z)
stored_back w some (pos n) h =
    let half = 2 ^ (w - 1) in
    let b = both (le_z (neg_ℤ (pos half)) (pos n)) (le_z (pos n) (pos half -ℤ pos 1)) h in
    let few : n < half = omega (zarith, b.1, -! (pos half) (pos 1)) in
    let is = complement-pos w n (omega (arith, halves w some)) in
    rw is (omega (arith, halves w some), low_half w n few)
stored_back w some (negsuc m) h =
    let half = 2 ^ (w - 1) in
    let b = both (le_z (neg_ℤ (pos half)) (negsuc m)) (le_z (negsuc m) (pos half -ℤ pos 1)) h in
    let few : m < half = omega (zarith, b.0, neg! (pos half)) in
    let n = 2 ^ w - suc m in
    let same : pos n -ℤ pos (2 ^ w) ≡ negsuc m = omega (zarith, -! (pos n) (pos (2 ^ w)), halves w some) in
    let is : complement_of w (negsuc m) ≡ n = sym (ap (complement_of w) same) ∙ complement-neg w n (omega (arith, halves w some)) in
    rw is (omega (arith, halves w some), high_half w n (omega (arith, halves w some)) ∙ same)

module _ (w : ℕ) (some : 1 ≤ w) (z : ℤ) where
  pub encoded-lt : (c : Coding) → can_hold (field c w) z ≡ true → encoded c w z < 2 ^ w
  encoded-lt plain h = (plain-held w z h).small
  encoded-lt less_one h = (less-one-held w z h).small
  encoded-lt signed h = (stored_back w some z h).0

  pub decoded-back : (c : Coding) → can_hold (field c w) z ≡ true → (s : List ℕ) (p : ℕ) → field_at s p w ≡ encoded c w z → decoded c s p w ≡ z
  unfolding signed_at
  decoded-back plain h s p e = ap pos e ∙ omega (zarith, (plain-held w z h).some, abs! z)
  decoded-back less_one h s p e =
      let u = less-one-held w z h in
      ap (λ (n : ℕ). pos (n + 1)) e ∙ omega (zarith, u.some, -! z (pos 1), abs! (z -ℤ pos 1))
  decoded-back signed h s p e = ap (twos_complement w) e ∙ (stored_back w some z h).1

-- ---- what is read is stored
pub record Read (c : Coding) (s : List ℕ) (p w : ℕ) : Type 0 where
  pub bits : encoded c w (decoded c s p w) ≡ field_at s p w
  pub held : can_hold (field c w) (decoded c s p w) ≡ true

module _ (s : List ℕ) (p w : ℕ) (some : 1 ≤ w) where
  twos_back : (n : ℕ) → n < 2 ^ w → complement_of w (twos_complement w n) ≡ n
  twos_back n h = go (dec_lt n (2 ^ (w - 1)))
    where
      go : Dec (n < 2 ^ (w - 1)) → complement_of w (twos_complement w n) ≡ n
      go (yes l) = ap (complement_of w) (low_half w n l) ∙ complement-pos w n h
      go (no l) = ap (complement_of w) (high_half w n (omega arith)) ∙ complement-neg w n h

  signed_back : complement_of w (signed_at s p w) ≡ field_at s p w
  unfolding signed_at
  signed_back = twos_back (field_at s p w) (field_lt s p w)

  pub read-field : (c : Coding) → Read c s p w
  read-field plain =
      let n = field_at s p w in
      record {
        bits = refl;
        held = (and-eq-true_iff (le_z (pos 0) (pos n)) (le_z (pos n) (pos (2 ^ w) -ℤ pos 1))).1
            (omega zarith, omega (zarith, field_lt s p w, -! (pos (2 ^ w)) (pos 1)));
      }
  read-field less_one =
      let n = field_at s p w in
      record {
        bits = ap nat_abs {x = pos (n + 1) -ℤ pos 1} {y = pos n} (omega (zarith, -! (pos (n + 1)) (pos 1)));
        held = (and-eq-true_iff (le_z (pos 1) (pos (n + 1))) (le_z (pos (n + 1)) (pos (2 ^ w)))).1 (omega zarith, omega (zarith, field_lt s p w));
      }
  read-field signed =
      let r = signed_range s p w some in
      let z = signed_at s p w in
      let half = 2 ^ (w - 1) in
      record {
        bits = signed_back;
        held = (and-eq-true_iff (le_z (neg_ℤ (pos half)) z) (le_z z (pos half -ℤ pos 1))).1
            (omega (zarith, r.low), omega (zarith, r.high, -! (pos half) (pos 1)));
      }
