-- The filled cell that a leg reaches first. In the field's terms, the first hit of a segment among the filled voxels. Definitions only.
use Rattle.std.specs.Prelude.{Bool, cond, ◌&&◌, ℕ, zero, suc, Option, Some, None}
use Rattle.geometry.specs.declared.Point.{Point}
use Rattle.geometry.specs.Geometry.{leg, cube}
use Rattle.grid.specs.declared.Grid.{Grid}
use Rattle.grid.specs.Grid.{cell_count, lattice_of, corner_of}
use Rattle.overlap.specs.Cells.{overlaps_cell}
use Rattle.entry.specs.declared.Fraction.{Fraction}
use Rattle.entry.specs.Entry.{earlier, entry}

-- What was found before, and number n: it takes the place of that one only where its fraction is less.
abbrev pub or_nearer : (ℕ → Fraction) → Option ℕ → ℕ → Option ℕ
or_nearer f (Some m) n = cond (earlier (f n) (f m)) (Some n) (Some m)
or_nearer f None n = Some n

-- Of the numbers below n that have the property, the one with the least fraction, and of equal fractions the lowest number.
unfoldable pub nearest : (ℕ → Bool) → (ℕ → Fraction) → ℕ → Option ℕ
nearest p f zero = None
nearest p f (suc n) = cond (p n) (or_nearer f (nearest p f n) n) (nearest p f n)

-- Cell n is filled, and the leg from a to b touches it: the overlap rule holds for the leg, which is a triangle, and the cell.
abbrev pub filled_and_touched : (filled : ℕ → Bool) → Grid → (a b : Point) → ℕ → Bool
filled_and_touched filled g a b n = filled n && overlaps_cell g (lattice_of g) (leg a b) n

-- The fraction of the leg from a to b at which it enters cell n.
abbrev pub entry_of_cell : Grid → (a b : Point) → ℕ → Fraction
entry_of_cell g a b n = entry a b (corner_of g n) (cube g.edge)

-- The cell that the leg from a to b reaches first, of those that are filled and touched.
unfoldable pub first_hit : (filled : ℕ → Bool) → Grid → (a b : Point) → Option ℕ
first_hit filled g a b = nearest (filled_and_touched filled g a b) (entry_of_cell g a b) (cell_count g)
