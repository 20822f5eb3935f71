-- A form along a column: its next value, its order, its size, and what a search by it asks of the machine, whichever way it goes.
-- Assumes nothing.
use mathlib.Core.Path.{◌≡◌, sym, ap, ◌∙◌, subst, subst₂}
use mathlib.Core.List.{List, [], ◌∷◌}
use Prim.Native.Nat.{ℕ, ◌+◌, ◌-◌, ◌*◌, ◌≤◌, ◌<◌}
use native.Mathlib.Decide.{dec_lt}
use native.Mathlib.Omega.{arith}
use lib.Dec.{lit<}
use lib.IntN.{ℤ, pos, ◌+ℤ◌, ◌-ℤ◌, ◌*ℤ◌}
use lib.Signed.{◌≤ℤ◌, ◌<ℤ◌}
use mir.Syntax.{w64}
use mir.Val.{SFits, to_z, of_z}
use mir.Facts.{to_z-of_z, to_z_pos}
use Rattle.integers.specs.Within.{Within, Withins}
use Rattle.integers.proofs.Omega.{zarith, +!, -! }
use Rattle.integers.proofs.Laws.{pos-le}
use Rattle.integers.proofs.Expr.{Expr, var, raw, num, ◌⊕◌, ◌⊗◌}
use Rattle.integers.proofs.Ring.{ring}
use Rattle.integers.proofs.Certificates.{le, ◌⊠◌, by_le}
use Rattle.integers.proofs.Bounds.{within-add, within-mul}
use Rattle.integers.proofs.Machine.{Asks, mach, asks, run, within-to_z}
use Rattle.runs.specs.Run.{slope_max, form_at, constant_max, Stepping, Splits}

abbrev pub form_max : ℕ
form_max = slope_max * 64 + constant_max

module _ (step at : ℤ) where
  pub next : (k : ℕ) → form_at step at k +ℤ step ≡ form_at step at (k + 1)
  next k = ring (step ∷ at ∷ pos k ∷ []) (var 0 ⊗ var 2 ⊕ var 1 ⊕ var 0) (var 0 ⊗ (var 2 ⊕ num 1) ⊕ var 1) tt

  pub rises : pos 0 ≤ℤ step → {k l : ℕ} → k ≤ l → form_at step at k ≤ℤ form_at step at l
  rises h {k} {l} o =
      by_le (step ∷ at ∷ pos k ∷ pos l ∷ []) (var 0 ⊗ var 2 ⊕ var 1) (var 0 ⊗ var 3 ⊕ var 1) (le (num 0) (var 0) h ⊠ le (var 2) (var 3) (pos-le o)) tt

  pub falls : step ≤ℤ pos 0 → {k l : ℕ} → k ≤ l → form_at step at l ≤ℤ form_at step at k
  falls h {k} {l} o =
      by_le (step ∷ at ∷ pos k ∷ pos l ∷ []) (var 0 ⊗ var 3 ⊕ var 1) (var 0 ⊗ var 2 ⊕ var 1) (le (var 0) (num 0) h ⊠ le (var 2) (var 3) (pos-le o)) tt

  pub form-within : {first end : ℕ} → Stepping first end step at → {k : ℕ} → k ≤ 64 → Within form_max (form_at step at k)
  form-within s h = within-add (within-mul s.slope (record { within = h })) s.constant

-- one more cell below
module _ (P : ℕ → Type 0) {k : ℕ} (here : P k) where
  pub one_below : {end : ℕ} → ((l : ℕ) → k + 1 ≤ l → l < end → P l) → (l : ℕ) → k ≤ l → l < end → P l
  one_below f l h u = go (dec_lt k l)
    where
      go : Dec (k < l) → P l
      go (yes d) = f l (omega arith) u
      go (no d) = let e : k ≡ l = omega arith in subst P e here

-- the value before
pub previous : (step at : ℤ) {k : ℕ} → 0 < k → form_at step at (k - 1) +ℤ step ≡ form_at step at k
previous step at {k} h = next step at (k - 1) ∙ ap (form_at step at) same
  where
    same : k - 1 + 1 ≡ k
    same = omega arith

pub take_step : (a b s : ℤ) → a +ℤ s ≡ b → b -ℤ s ≡ a
take_step a b s e = omega (zarith, +! a s, -! b s)

pub step-nn : (a b s : ℤ) → a +ℤ s ≡ b → s ≤ℤ b → pos 0 ≤ℤ a
step-nn a b s e h = omega (zarith, +! a s)

pub step-neg : (a b s : ℤ) → a +ℤ s ≡ b → b <ℤ s → a <ℤ pos 0
step-neg a b s e h = omega (zarith, +! a s)

-- ---- a search, up or down
-- a number of the form, as the machine reads it back
abbrev pub read : ℤ → ℤ
read z = to_z w64 (of_z w64 z)

-- what a search is given
pub record Given (first end : ℕ) (step at : ℤ) : Type 0 where
  pub form : Stepping first end step at
  pub step_fits : SFits w64 step
  pub at-fits : SFits w64 at

pub given : {first end : ℕ} {step at : ℤ} → Stepping first end step at → SFits w64 step → SFits w64 at → Given first end step at
given form step at = record { form = form; step_fits = step; at-fits = at }

-- the first value, of the form's numbers and a cell's number; and the numbers from which the next value is made
abbrev pub start_form : Expr
start_form = var 0 ⊗ raw 2 ⊕ var 1

abbrev start_max : List ℕ
start_max = slope_max ∷ constant_max ∷ 64 ∷ []

abbrev pub next_max : List ℕ
next_max = form_max ∷ slope_max ∷ []

module _ {first end : ℕ} {step at : ℤ} (g : Given first end step at) where
  form-read : (k : ℕ) → form_at (read step) (read at) k ≡ form_at step at k
  form-read k = λ i. form_at (to_z-of_z g.step_fits i) (to_z-of_z g.at-fits i) k

  start-in : {k : ℕ} → k ≤ 64 → Withins start_max (step ∷ at ∷ to_z w64 k ∷ [])
  start-in h = (g.form.slope, (g.form.constant, (within-to_z w64 (lit< tt) h, tt)))

  pub start-asks : {k : ℕ} → k ≤ 64 → Asks (step ∷ at ∷ to_z w64 k ∷ []) start_form
  start-asks {k} h = asks (step ∷ at ∷ to_z w64 k ∷ []) start_form start_max tt (start-in h)

  pub start_is : {k : ℕ} → k ≤ 64 → mach (step ∷ at ∷ to_z w64 k ∷ []) start_form ≡ form_at (read step) (read at) k
  start_is {k} h =
      run (step ∷ at ∷ to_z w64 k ∷ []) start_form start_max tt (start-in h)
      ∙ ap (λ (y : ℤ). step *ℤ y +ℤ at) (to_z_pos w64 {n = k} (omega arith)) ∙ sym (form-read k)

  pub next-in : {x : ℤ} {k : ℕ} → x ≡ form_at (read step) (read at) k → k ≤ 64 → Withins next_max (x ∷ step ∷ [])
  next-in {k = k} e h = (rw (e, form-read k) (form-within step at g.form h), (g.form.slope, tt))

  -- what the search found of the numbers read back, said of the numbers
  pub found : (low high : (step at : ℤ) → ℕ → Type 0) {r : ℕ} → Splits first end (low (read step) (read at)) (high (read step) (read at)) r
      → Splits first end (low step at) (high step at) r
  found low high {r} h = subst₂ (λ a b. Splits first end (low a b) (high a b) r) (to_z-of_z g.step_fits) (to_z-of_z g.at-fits) h
