-- Laws of `all_below`, and of lists of fields.
--     all-at, all_of        what each number has, and back
--     all_more, all-no      as a loop asks it
--     held_of               each field can hold its number, so all can
--     header-held           the bounds of all fields say what the fields can hold
-- Assumes nothing.
use mathlib.Core.Bool.{Bool, true, false, ◌&&◌, true≢false, and-eq-true_iff}
use mathlib.Core.List.{List, [], ◌∷◌}
use mathlib.Core.Path.{◌≡◌, refl, sym, ap, ◌∙◌}
use Prim.Native.Nat.{ℕ, zero, suc, ◌+◌, ◌<◌}
use native.Mathlib.Decide.{dec_lt}
use native.Mathlib.Numerals.{add-one}
use native.Mathlib.Omega.{arith}
use lib.IntN.{ℤ, pos}
use lib.ListN.{length, get_or}
use Rattle.layout.specs.Layout.{FieldForm, field, plain}
use Rattle.layout_write.specs.Writing.{can_hold, can_hold_all}
use Rattle.writable.specs.Fits.{all_below}
use Rattle.writable.specs.Inner.{bounds_of, each_between}

module _ (p : ℕ → Bool) where
  pub all_more : (i : ℕ) → all_below p i ≡ true → p i ≡ true → all_below p (i + 1) ≡ true
  unfolding all_below
  all_more i h e = rw (add-one i, h, e) refl

  pub all-at : (n : ℕ) → all_below p n ≡ true → (i : ℕ) → i < n → p i ≡ true
  unfolding all_below
  all-at zero h i l = absurd (omega arith)
  all-at (suc n) h i l = go (dec_lt i n) ((and-eq-true_iff (all_below p n) (p n)).0 h) (all-at n)
    where
      go : Dec (i < n) → (all_below p n ≡ true) × (p n ≡ true) → (all_below p n ≡ true → (i : ℕ) → i < n → p i ≡ true) → p i ≡ true
      go (yes m) b ih = ih b.0 i m
      go (no m) b ih = let same : i ≡ n = omega arith in rw same b.1

  pub all_of : (n : ℕ) → ((i : ℕ) → i < n → p i ≡ true) → all_below p n ≡ true
  unfolding all_below
  all_of zero f = refl
  all_of (suc n) f = rw (all_of n (λ i l. f i (omega arith)), f n (omega arith)) refl

  pub all-no : (n i : ℕ) → i < n → p i ≡ false → all_below p n ≡ false
  all-no n i l e = go (all_below p n) refl
    where
      go : (b : Bool) → all_below p n ≡ b → b ≡ false
      go true h = absurd (true≢false (sym (all-at n h i l) ∙ e))
      go false h = refl

-- ---- lists of fields
abbrev pub none : FieldForm
none = field plain 0

pub held_of : (fs : List FieldForm) (zs : List ℤ) → length zs ≡ length fs → ((k : ℕ) → k < length fs → can_hold (get_or fs k none) (get_or zs k (pos 0)) ≡ true)
    → can_hold_all fs zs ≡ true
held_of [] [] e f = refl
held_of [] (z ∷ zs) e f = absurd (omega arith)
held_of (g ∷ fs) [] e f = absurd (omega arith)
held_of (g ∷ fs) (z ∷ zs) e f = rw (f 0 (omega arith), held_of fs zs (omega arith) (λ k l. f (suc k) (omega arith))) refl

pub header-held : (fs : List FieldForm) (zs : List ℤ) → length zs ≡ length fs → each_between (bounds_of fs) zs ≡ can_hold_all fs zs
header-held [] [] e = refl
header-held [] (z ∷ zs) e = absurd (omega arith)
header-held (f ∷ fs) [] e = absurd (omega arith)
header-held (f ∷ fs) (z ∷ zs) e = ap (λ (b : Bool). can_hold f z && b) (header-held fs zs (omega arith))
