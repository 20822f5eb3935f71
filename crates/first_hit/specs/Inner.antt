-- What the search for the cell reached first goes by, and what it has found. Definitions only; no public promise cites them.
use Rattle.std.specs.Prelude.{Bool, true, cond, ◌≡◌, ℕ, ◌<◌, ◌≤◌}
use Rattle.grid.specs.Cells.{x_of_cell, y_of_cell, z_of_cell, cell_number}
use Rattle.map.specs.Map.{is_filled}
use Rattle.legs.specs.Slab.{row_holds}
use Rattle.entry.specs.declared.Fraction.{Fraction}
use Rattle.entry.specs.Entry.{earlier}
use Rattle.entry.specs.Inner.{entry_at, AtMost}
use Rattle.touch.specs.Inner.{wanted}
use Rattle.first_hit.specs.declared.Best.{Best}
use Rattle.first_hit.specs.declared.Traversal.{Traversal}

-- ---- the first of the numbers below c
-- n is below c and has the property; the fraction of every other such number is not less, and greater where its number is lower.
pub record IsFirst (p : ℕ → Bool) (f : ℕ → Fraction) (c n : ℕ) : Type 0 where
  pub below : n < c
  pub has : p n ≡ true
  pub least : (m : ℕ) → m < c → p m ≡ true → AtMost (f n) (f m)
  pub lowest : (m : ℕ) → m < n → p m ≡ true → earlier (f n) (f m) ≡ true

-- While numbers are passed in their order: `best` has the property; of the numbers below c none is before it, and from c on none that has the property is lower.
pub record FirstBelow (p : ℕ → Bool) (f : ℕ → Fraction) (c : ℕ) (best : Best) : Type 0 where
  pub has : p best.cell ≡ true
  pub is : best.at ≡ f best.cell
  pub least : (m : ℕ) → m < c → p m ≡ true → AtMost best.at (f m)
  pub lowest : (m : ℕ) → m < best.cell → p m ≡ true → earlier best.at (f m) ≡ true
  pub ahead : (m : ℕ) → c ≤ m → p m ≡ true → best.cell ≤ m

-- Number n, entered at f, takes the place of the one found so far only where f is less.
abbrev pub nearer_of : Best → ℕ → Fraction → Best
nearer_of best n f = cond (earlier f best.at) (record { cell = n; at = f }) best

-- ---- a leg in a grid
-- The cells looked for, and the fraction at which the leg enters each.
abbrev pub sought : Traversal → ℕ → Bool
sought t = wanted (is_filled t.map.now) t.g t.slabs t.block

abbrev pub entered : Traversal → ℕ → Fraction
entered t n = entry_at t.entries (x_of_cell t.g.nx n) (y_of_cell t.g.nx t.g.ny n) (z_of_cell t.g.nx t.g.ny n)

-- `best` is the first of the cells before row j of layer k.
abbrev pub FirstBefore : Traversal → (j k : ℕ) → Best → Type 0
FirstBefore t j k best = FirstBelow (sought t) (entered t) (cell_number t.g.nx t.g.ny 0 j k) best

-- A layer of the block, and a row that lies in the slab in YZ.
pub record LayerOf (t : Traversal) (k : ℕ) : Type 0 where
  pub from : t.block.z.first ≤ k
  pub to : k < t.block.z.end

pub record RowOf (t : Traversal) (j k : ℕ) : Type 0 where
  pub layer : LayerOf t k
  pub from : t.block.y.first ≤ j
  pub to : j < t.block.y.end
  pub holds : row_holds t.slabs k j ≡ true
