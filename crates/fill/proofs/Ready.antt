-- An accepted file's grid can be filled.
--     ready-grid          the grid with its cells as boxes, for a map that is long enough
-- Assumes nothing.
use Prim.Native.Nat.{ℕ, ◌≤◌}
use native.Mathlib.Omega.{arith}
use Rattle.grid.specs.declared.Grid.{Grid}
use Rattle.grid.specs.Grid.{cell_count, lattice_of}
use Rattle.grid.specs.Usable.{BoundedGrid}
use Rattle.grid.proofs.Usable.{usable-boxes}
use Rattle.map.specs.Map.{map_length}
use Rattle.triangles.specs.Add.{Fillable}

pub ready-grid : {g : Grid} {bytes : ℕ} → BoundedGrid g → map_length (cell_count g) ≤ bytes → Fillable g (lattice_of g) bytes
ready-grid u room = let w = u.within in record { x = w.x; y = w.y; z = w.z; boxes = usable-boxes u; room = omega (arith, room) }
