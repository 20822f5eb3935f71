-- Which patterns are not a number. Definitions only; no public promise cites them.
use Rattle.std.specs.Prelude.{Bool, false, List, ℕ}
use Rattle.std.specs.Float.{binary32, binary64}
use Rattle.std.specs.Float.Ieee.{of_bits, is_nan}
use Rattle.ply_header.specs.declared.Scalar.{Scalar}
use Rattle.ply_header.specs.declared.Scalar.TheVariants.{Float, Double, Int}
use Rattle.ply_vertex.specs.Vertex.{little_endian}

abbrev pub nan_at : Scalar → List ℕ → ℕ → Bool
nan_at Float s at = is_nan (of_bits binary32 (little_endian s at 4))
nan_at Double s at = is_nan (of_bits binary64 (little_endian s at 8))
nan_at Int s at = false
