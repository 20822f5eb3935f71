-- What was packed comes back.
--     tag_back, number-back, leg-back, low-back   the parts of an answer
--     Fits, refusal-back                          the numbers of an answer fit their bits, and so a refusal comes back
--     FitsCount, FitsAlways                       a count fits; every value does
--     counted                                     an answer with a count comes back
-- Assumes nothing.
use mathlib.Core.Path.{◌≡◌, ap, ap₂, ◌∙◌}
use Prim.Native.Nat.{ℕ, ◌%◌, ◌^◌, ◌<◌}
use native.Mathlib.Omega.{arith}
use Rattle.refusal.specs.Limit.{Answer, gives, refused}
use Rattle.pack.specs.Pack.{packed, tag_of, limit_number_of, leg_of, packed_count, unpacked_count}

-- ---- the parts
module _ (tag number leg low : ℕ) where
  pub tag_back : tag_of (packed tag number leg low) ≡ tag
  tag_back = omega arith

  pub number-back : number < 2 ^ 8 → limit_number_of (packed tag number leg low) ≡ number
  number-back h = omega arith

  pub leg-back : leg < 2 ^ 16 → leg_of (packed tag number leg low) ≡ leg
  leg-back h = omega arith

  pub low-back : low < 2 ^ 32 → packed tag number leg low % 2 ^ 32 ≡ low
  low-back h = omega arith

-- ---- an answer
-- The numbers of an answer fit their bits, where those of what is given do.
abbrev pub Fits : {A : Type 0} → (A → Type 0) → Answer A → Type 0
Fits P (gives a) = P a
Fits P (refused n p) = (n < 2 ^ 8) × (p < 2 ^ 32)

pub refusal-back : {A : Type 0} (n p : ℕ) → (n < 2 ^ 8) × (p < 2 ^ 32) → ◌≡◌ {A = Answer A} (refused (limit_number_of (packed 1 n 0 p)) (packed 1 n 0 p % 2 ^ 32)) (refused n p)
refusal-back n p h = ap₂ refused (number-back 1 n 0 p h.0) (low-back 1 n 0 p h.1)

-- ---- what fits
abbrev pub FitsCount : ℕ → Type 0
FitsCount n = n < 2 ^ 32

abbrev pub FitsAlways : {A : Type 0} → A → Type 0
FitsAlways a = Unit {0}

-- ---- a count
count-back : (a : Answer ℕ) → Fits FitsCount a → unpacked_count (packed_count a) ≡ a
unfolding unpacked_count
count-back (gives n) h = rw (tag_back 0 0 0 n) (ap gives (low-back 0 0 0 n h))
count-back (refused n p) h = rw (tag_back 1 n 0 p) (refusal-back n p h)

pub counted : {a : Answer ℕ} {r : ℕ} → Fits FitsCount a → r ≡ packed_count a → unpacked_count r ≡ a
counted {a} fits e = ap unpacked_count e ∙ count-back a fits
