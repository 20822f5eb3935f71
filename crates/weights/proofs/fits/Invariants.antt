-- `weights::fits`: no row passed is negative on the weights.
use Prim.Native.Nat.{ℕ, ◌<◌}
use lib.IntN.{pos}
use lib.Signed.{◌≤ℤ◌}
use Rattle.geometry.specs.Geometry.{dot}
use Rattle.candidates.specs.Candidates.{row}
use Rattle.weights.proofs.fits.Given as goal

abbrev pub invariant-loop-r : goal.invariant-loop-r
invariant-loop-r l = (j : ℕ) → j < l.r-index → pos 0 ≤ℤ dot (row l.rows j) l.w
