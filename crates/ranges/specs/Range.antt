-- The cells whose box test holds, as a range of cells on each axis. Definitions only.
use Rattle.std.specs.Prelude.{List, [], ◌∷◌, ◌≡◌, Bool, ◌&&◌, ℕ, ◌^◌, ◌≤◌, ◌<◌, ltb, ℤ, pos, ◌+ℤ◌, ◌*ℤ◌}
use Rattle.std.specs.Int.Signed.{le_z}
use Rattle.geometry.specs.declared.Triangle.{Triangle}
use Rattle.geometry.specs.Geometry.{Axis, x_of, y_of, z_of, cube}
use Rattle.overlap.specs.Rule.{least_holds, greatest_holds}
use Rattle.grid.specs.declared.Lattice.{Lattice}
use Rattle.grid.specs.Grid.{box_corner}
use Rattle.geometry.specs.Bounds.{coordinate_max, step_max, extent_max}
use Rattle.grid.specs.declared.CellRange.{CellRange}
use Rattle.grid.specs.declared.BoxRange.{BoxRange}
use Rattle.grid.specs.Range.{in_range}

-- Of the first n cells of an axis, those below r.end are the ones for which Q holds, and those in the range are the ones for which P holds too.
-- Where no cell has both, the range is empty: it begins where it ends, behind the cells for which Q holds. So r is fixed (`picks-one` in proofs/Ranges).
pub record Picks (n : ℕ) (P Q : ℕ → Bool) (r : CellRange) : Type 0 where
  pub ordered : r.first ≤ r.end
  pub within : r.end ≤ n
  pub upto : (i : ℕ) → i < n → ltb i r.end ≡ Q i
  pub exact : (i : ℕ) → i < n → in_range r i ≡ (P i && Q i)

-- On an axis, the closed range from `least` to `greatest` touches the box of cell i: the box ends at or behind `least`, and begins at or before `greatest`.
abbrev pub ends_from : (least origin step extent : ℤ) → ℕ → Bool
ends_from least origin step extent i = le_z least (origin +ℤ pos i *ℤ step +ℤ extent)

abbrev pub begins_by : (greatest origin step : ℤ) → ℕ → Bool
begins_by greatest origin step i = le_z (origin +ℤ pos i *ℤ step) greatest

-- On each axis, the cells whose box test holds, by the test's two halves. Where it holds for none, the range is empty: it begins where it ends, behind the
-- cells that begin at or before the triangle's greatest value there. The test on an axis looks at the cell's number on that axis alone, so cell (i, i, i)
-- stands for every cell with the number i.
abbrev pub least_on : Triangle → Lattice → Axis → ℕ → Bool
least_on t l a i = least_holds t (box_corner l i i i) (cube l.extent) a

abbrev pub greatest_on : Triangle → Lattice → Axis → ℕ → Bool
greatest_on t l a i = greatest_holds t (box_corner l i i i) a

pub record PicksBox (t : Triangle) (l : Lattice) (nx ny nz : ℕ) (r : BoxRange) : Type 0 where
  pub x : Picks nx (least_on t l x_of) (greatest_on t l x_of) r.x
  pub y : Picks ny (least_on t l y_of) (greatest_on t l y_of) r.y
  pub z : Picks nz (least_on t l z_of) (greatest_on t l z_of) r.z

-- ---- what the functions ask: their numbers' bounds, in their parameters' order
pub record Few (nx ny nz : ℕ) : Type 0 where
  pub x : nx < 2 ^ 63
  pub y : ny < 2 ^ 63
  pub z : nz < 2 ^ 63

-- On an axis: the least and the greatest coordinate, the lattice's origin, step and extent; three corners, the same.
abbrev pub range_bounds : List ℕ
range_bounds = coordinate_max ∷ coordinate_max ∷ coordinate_max ∷ step_max ∷ extent_max ∷ []

abbrev pub axis_bounds : List ℕ
axis_bounds = coordinate_max ∷ coordinate_max ∷ coordinate_max ∷ coordinate_max ∷ step_max ∷ extent_max ∷ []
