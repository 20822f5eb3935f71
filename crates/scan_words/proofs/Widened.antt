-- The numbers of a file are widened without loss.
--     widens    the three numbers of a vertex: a float and a double are what they were, and an int is a double exactly
-- Assumes nothing.
use mathlib.Core.List.{List}
use mathlib.Core.Path.{◌≡◌, refl}
use Prim.Native.Nat.{ℕ, ◌+◌, ◌<◌, ◌≤◌}
use native.Mathlib.Decide.{dec_lt}
use native.Mathlib.Omega.{arith}
use lib.IntN.{ℤ, pos, negsuc, ◌-ℤ◌}
use lib.ListN.{get_or}
use lib.Signed.{mag}
use Rattle.bits.specs.Field.{twos_complement}
use Rattle.bits.proofs.Signs.{low_half, high_half}
use Rattle.integers.proofs.Omega.{zarith, -! }
use Rattle.rounding.specs.Widening.{SameValue, widened_of}
use Rattle.rounding.proofs.Wholes.{int-value}
use Rattle.ply_header.specs.declared.Scalar.{Scalar}
use Rattle.ply_header.specs.declared.Scalar.TheVariants.{Float, Double, Int}
use Rattle.ply_vertex.specs.Vertex.{little_endian, number_at, vertex_at}
use Rattle.scan_words.specs.ScanWords.{Widens}

-- an int of 32 bits
int-range : (n : ℕ) → n < 4294967296 → mag (twos_complement 32 n) < 2147483648
int-range n h = go (dec_lt n 2147483648)
  where
    sized : (z : ℤ) → z ≡ pos n -ℤ pos 4294967296 → 2147483648 ≤ n → mag z < 2147483648
    sized (pos m) e l = omega (zarith, -! (pos n) (pos 4294967296))
    sized (negsuc m) e l = omega (zarith, -! (pos n) (pos 4294967296))

    go : Dec (n < 2147483648) → mag (twos_complement 32 n) < 2147483648
    go (yes l) = rw (low_half 32 n l) l
    go (no l) = rw (high_half 32 n (omega arith)) (sized (pos n -ℤ pos 4294967296) refl (omega arith))

module _ (s : List ℕ) (bytes : (i : ℕ) → get_or s i 0 < 256) where
  widened : (t : Scalar) (at : ℕ) → SameValue (number_at t s at) (widened_of (number_at t s at))
  widened Float at = refl
  widened Double at = refl
  widened Int at = int-value _ (int-range (little_endian s at 4) (omega (arith, bytes (at + 0), bytes (at + 1), bytes (at + 2), bytes (at + 3))))

pub widens : Widens
unfolding vertex_at
widens s bytes f at = record { x = widened s bytes f.x _; y = widened s bytes f.y _; z = widened s bytes f.z _ }
