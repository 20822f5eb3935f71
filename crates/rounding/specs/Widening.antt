-- A number of a file as an `f64`, without loss. Definitions only. The library has one type of floats for both widths: an `f32` and the `f64` of the
-- same value are equal, and so are any two that are not a number.
use Rattle.std.specs.Prelude.{◌≡◌, T, ℤ, pos, ◌*ℤ◌, Float as F}
use Rattle.std.specs.Float.{binary64}
use Rattle.std.specs.Float.Ieee.{of_int}
use Rattle.rounding.specs.declared.Number.{Number}
use Rattle.rounding.specs.declared.Number.TheVariants.{Float, Double, Int}
use Rattle.rounding.specs.declared.Vertex.{Vertex}
use Rattle.rounding.specs.Rounding.{finite, scaled, unit}

-- The float x is the whole number k exactly.
pub record Equals (x : F) (k : ℤ) : Type 0 where
  pub exact : T (finite x)
  pub value : scaled x ≡ k *ℤ pos (unit x)

-- The float r has the value of the number n.
abbrev pub SameValue : Number → F → Type 0
SameValue (Float x) r = r ≡ x
SameValue (Double x) r = r ≡ x
SameValue (Int k) r = Equals r k

abbrev pub widened_of : Number → F
widened_of (Float x) = x
widened_of (Double x) = x
widened_of (Int k) = of_int binary64 k

-- A vertex is three doubles.
abbrev pub widened_vertex : (x y z : Number) → Vertex
widened_vertex x y z = record { x = widened_of x; y = widened_of y; z = widened_of z }
