-- `fill::add_records`: the triangles before the loop's are in the map.
use Rattle.std.proofs.Common.{ℕ, ◌+◌, List, Bool}
use Rattle.geometry.specs.declared.Triangle.{Triangle}
use Rattle.grid.specs.declared.Grid.{Grid}
use Rattle.grid.specs.declared.Lattice.{Lattice}
use Rattle.grid.specs.Grid.{cell_count}
use Rattle.overlap.specs.Cells.{overlaps_cell}
use Rattle.map.specs.Map.{tabulate}
use Rattle.frame.specs.File.{record_of}
use Rattle.triangles.specs.Add.{Adds}
use Rattle.fill.specs.Fill.{any_of}
use Rattle.fill.proofs.add_records.Given as goal

-- the triangle of record first + i, and whether it overlaps cell n
abbrev pub record-at : List ℕ → (first i : ℕ) → Triangle
record-at file first i = (record_of file (first + i)).triangle

abbrev pub fills : Grid → Lattice → ℕ → Triangle → Bool
fills g l n t = overlaps_cell g l t n

abbrev pub invariant-loop-i : goal.invariant-loop-i
invariant-loop-i l = Adds (cell_count l.g) (λ n. any_of (fills l.g l.l n) (tabulate (record-at l.file l.first) l.i)) l.initial.map l.map
