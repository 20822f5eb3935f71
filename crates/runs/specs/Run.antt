-- A run of cells, from `first` on and below `end`, cut by a form step × k + at of the cell's number k. Definitions only.
use Rattle.std.specs.Prelude.{Bool, ◌&&◌, ◌≡◌, ℕ, ◌+◌, ◌^◌, ◌≤◌, ◌<◌, ℤ, pos, ◌+ℤ◌, ◌*ℤ◌, ◌≤ℤ◌, ◌<ℤ◌}
use Rattle.std.specs.Int.Signed.{le_z}
use Rattle.integers.specs.Within.{Within}
use Rattle.grid.specs.declared.CellRange.{CellRange}
use Rattle.grid.specs.Range.{in_range}

-- The form at cell k, and its test.
abbrev pub form_at : (step at : ℤ) → ℕ → ℤ
form_at step at k = step *ℤ pos k +ℤ at

abbrev pub passes : (step at : ℤ) → ℕ → Bool
passes step at k = le_z (pos 0) (form_at step at k)

abbrev pub FormHolds : (step at : ℤ) → ℕ → Type 0
FormHolds step at k = pos 0 ≤ℤ form_at step at k

abbrev pub FormFails : (step at : ℤ) → ℕ → Type 0
FormFails step at k = form_at step at k <ℤ pos 0

-- How large a form's coefficient and its constant may be, so that no value of it leaves 64 bits.
abbrev pub slope_max : ℕ
slope_max = 2 ^ 54

abbrev pub constant_max : ℕ
constant_max = 2 ^ 62 + 2 ^ 61 + 2 ^ 58

pub record Stepping (first end : ℕ) (step at : ℤ) : Type 0 where
  pub ordered : first ≤ end
  pub most : end ≤ 64
  pub slope : Within slope_max step
  pub constant : Within constant_max at

-- r splits the run: one property below it, and another from it on.
pub record Splits (first end : ℕ) (low high : ℕ → Type 0) (r : ℕ) : Type 0 where
  pub from : first ≤ r
  pub to : r ≤ end
  pub below : (k : ℕ) → first ≤ k → k < r → low k
  pub above : (k : ℕ) → r ≤ k → k < end → high k

-- r is the part of the run whose cells have the property.
pub record Narrows (run : CellRange) (p : ℕ → Bool) (r : CellRange) : Type 0 where
  pub ordered : r.first ≤ r.end
  pub from : run.first ≤ r.first
  pub to : r.end ≤ run.end
  pub exact : (k : ℕ) → in_range r k ≡ (in_range run k && p k)

abbrev pub SteppingIn : CellRange → (step at : ℤ) → Type 0
SteppingIn run = Stepping run.first run.end

-- Cell k is in the slab: the form is from 0 to `reach` there, both included.
abbrev pub in_slab : (step at reach : ℤ) → ℕ → Bool
in_slab step at reach k = passes step at k && le_z (form_at step at k) reach

-- How large a slab's constant and its reach may be.
abbrev pub slab_max : ℕ
slab_max = 2 ^ 62 + 2 ^ 61

abbrev pub reach_max : ℕ
reach_max = 2 ^ 57

pub record SlabReady (run : CellRange) (hint : ℕ) (step at reach : ℤ) : Type 0 where
  pub low : run.first ≤ hint
  pub high : hint ≤ run.end
  pub most : run.end ≤ 64
  pub rises : pos 0 ≤ℤ step
  pub slope : Within slope_max step
  pub constant : Within slab_max at
  pub thick : Within reach_max reach
