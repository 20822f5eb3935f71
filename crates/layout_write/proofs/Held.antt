-- What a field can hold, as facts about numbers.
--     both                                     two tests that both hold
--     plain-held, less-one-held, signed-held   a field of each coding
--     held-length, held_at                     all fields of a list
--     spread                                   a list, number by number
-- Assumes nothing.
use mathlib.Core.Bool.{Bool, true, true≢false, ◌&&◌, and-eq-true_iff}
use mathlib.Core.List.{List, [], ◌∷◌}
use mathlib.Core.Path.{◌≡◌, refl, sym, ap}
use Prim.Native.Nat.{ℕ, zero, suc, ◌-◌, ◌^◌, ◌<◌}
use native.Mathlib.Omega.{arith}
use lib.IntN.{ℤ, pos, neg_ℤ, nat_abs, ◌-ℤ◌}
use lib.ListN.{length, get_or}
use lib.Signed.{◌≤ℤ◌, le_z}
use Rattle.integers.specs.Within.{Within}
use Rattle.integers.proofs.Omega.{zarith, -!, neg!, abs! }
use Rattle.layout.specs.Layout.{FieldForm, field, plain, less_one, signed}
use Rattle.layout_write.specs.Writing.{can_hold, can_hold_all}

pub both : (a b : Bool) → a && b ≡ true → (a ≡ true) × (b ≡ true)
both a b h = (and-eq-true_iff a b).0 h

-- ---- one field
pub record Unsigned (w : ℕ) (z : ℤ) : Type 0 where
  pub some : pos 0 ≤ℤ z
  pub small : nat_abs z < 2 ^ w

module _ (w : ℕ) (z : ℤ) where
  pub plain-held : can_hold (field plain w) z ≡ true → Unsigned w z
  plain-held h =
      let b = both (le_z (pos 0) z) (le_z z (pos (2 ^ w) -ℤ pos 1)) h in
      record { some = omega (zarith, b.0); small = omega (zarith, b.0, b.1, -! (pos (2 ^ w)) (pos 1), abs! z) }

  pub less-one-held : can_hold (field less_one w) z ≡ true → Unsigned w (z -ℤ pos 1)
  less-one-held h =
      let b = both (le_z (pos 1) z) (le_z z (pos (2 ^ w))) h in
      record {
        some = omega (zarith, b.0, -! z (pos 1));
        small = omega (zarith, b.0, b.1, -! z (pos 1), abs! (z -ℤ pos 1));
      }

  pub signed-held : can_hold (field signed w) z ≡ true → Within (2 ^ (w - 1)) z
  signed-held h =
      let half = 2 ^ (w - 1) in
      let b = both (le_z (neg_ℤ (pos half)) z) (le_z z (pos half -ℤ pos 1)) h in
      record { within = omega (zarith, b.0, b.1, -! (pos half) (pos 1), neg! (pos half), abs! z) }

-- ---- all fields of a list
pub held-length : (fs : List FieldForm) (zs : List ℤ) → can_hold_all fs zs ≡ true → length zs ≡ length fs
held-length [] [] h = refl
held-length [] (z ∷ zs) h = absurd (true≢false (sym h))
held-length (f ∷ fs) [] h = absurd (true≢false (sym h))
held-length (f ∷ fs) (z ∷ zs) h = ap suc (held-length fs zs (both (can_hold f z) (can_hold_all fs zs) h).1)

pub held_at : (fs : List FieldForm) (zs : List ℤ) → can_hold_all fs zs ≡ true → (i : ℕ) → i < length fs → can_hold (get_or fs i (field plain 0)) (get_or zs i (pos 0)) ≡ true
held_at [] zs h i l = absurd (omega arith)
held_at (f ∷ fs) [] h i l = absurd (true≢false (sym h))
held_at (f ∷ fs) (z ∷ zs) h zero l = (both (can_hold f z) (can_hold_all fs zs) h).0
held_at (f ∷ fs) (z ∷ zs) h (suc i) l = held_at fs zs (both (can_hold f z) (can_hold_all fs zs) h).1 i (omega arith)

-- ---- a list, number by number: k numbers from number a on
abbrev pub span : List ℤ → (a k : ℕ) → List ℤ
span zs a zero = []
span zs a (suc k) = get_or zs a (pos 0) ∷ span zs (suc a) k

span-next : (z : ℤ) (zs : List ℤ) (a k : ℕ) → span (z ∷ zs) (suc a) k ≡ span zs a k
span-next z zs a zero = refl
span-next z zs a (suc k) = rw (span-next z zs (suc a) k)

pub spread : (zs : List ℤ) (k : ℕ) → length zs ≡ k → zs ≡ span zs 0 k
spread [] zero e = refl
spread [] (suc k) e = absurd (omega arith)
spread (z ∷ zs) zero e = absurd (omega arith)
spread (z ∷ zs) (suc k) e = rw (span-next z zs 0 k) (ap (λ (l : List ℤ). z ∷ l) (spread zs k (omega arith)))
