-- What a float that rounds to no number of the range is refused as. Definitions only; no public promise cites them.
use Rattle.std.specs.Prelude.{Float}
use Rattle.std.specs.Float.{nan, inf, fin}
use Rattle.rounding.specs.declared.Unrounded.{Unrounded}
use Rattle.rounding.specs.declared.Unrounded.TheVariants.{NotFinite, OutOfRange}

abbrev pub refused_as : Float → Unrounded
refused_as nan = NotFinite
refused_as (inf s) = NotFinite
refused_as (fin s m e) = OutOfRange
