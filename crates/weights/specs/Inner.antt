-- What the functions compute, how large their numbers may be, and what a test of weights tells. Definitions only; no public promise cites them.
use Rattle.std.specs.Prelude.{Bool, true, false, List, [], ◌∷◌, ◌≡◌, ℕ, ℤ}
use Rattle.geometry.specs.declared.Point.{Point}
use Rattle.geometry.specs.Bounds.{coordinate_max, extent_max, difference_max, each, PointWithin}
use Rattle.candidates.specs.Candidates.{low_side, high_side, row, Fits}
use Rattle.weights.specs.declared.Sides.{Sides}

-- The rows of the two sides on an axis.
abbrev pub sides_of : (a b c p extent : ℤ) → Sides
sides_of a b c p extent = let low = low_side a b c p in record { low = low; high = high_side low extent }

-- What they are computed from: three corners, the box's low side and its extent.
abbrev pub side_bounds : List ℕ
side_bounds = each coordinate_max 4 (extent_max ∷ [])

-- Rows that a function takes.
abbrev pub BoundedRows : List Point → Type 0
BoundedRows rs = (k : ℕ) → PointWithin difference_max (row rs k)

-- The answer r tells whether the weights w fit the rows.
pub record Tells (rs : List Point) (w : Point) (r : Bool) : Type 0 where
  pub yes : r ≡ true → Fits rs w
  pub no : r ≡ false → Fits rs w → ⊥
