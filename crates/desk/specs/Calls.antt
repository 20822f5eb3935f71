-- What the calls of the desk say and leave. Definitions only. `pack` says how the answers are packed.
use Rattle.std.specs.Prelude.{cond, List, ℕ, eqb, ℤ, length}
use Rattle.refusal.specs.Limit.{Answer, refused}
use Rattle.frame_write.specs.Write.{grid_from, writing, written_bytes}
use Rattle.scan.specs.Scan.{scanning, scan_bytes}

-- ---- writing a frame file
-- A grid has seven numbers: another number of them gives 12.
unfoldable pub list_writing : (grid triangles : List ℤ) → (room : ℕ) → Answer ℕ
list_writing gs zs room = cond (eqb (length gs) 7) (writing (grid_from gs) zs room) (refused 12 0)

unfoldable pub list_bytes : (grid triangles : List ℤ) → (out : List ℕ) → List ℕ
list_bytes gs zs out = cond (eqb (length gs) 7) (written_bytes (grid_from gs) zs out) out

-- ---- a frame file from a scanner's file
unfoldable pub list_scanning : (ply : List ℕ) (grid : List ℤ) → (room : ℕ) → Answer ℕ
list_scanning s gs room = cond (eqb (length gs) 7) (scanning (grid_from gs) s room) (refused 12 0)

unfoldable pub list_scan_bytes : (ply : List ℕ) (grid : List ℤ) → (out : List ℕ) → List ℕ
list_scan_bytes s gs out = cond (eqb (length gs) 7) (scan_bytes (grid_from gs) s out) out
