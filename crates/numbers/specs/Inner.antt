-- What the functions ask of the numbers. Definitions only; no public promise cites them.
use Rattle.std.specs.Prelude.{List, [], ◌∷◌, ◌^◌, ℤ}
use Rattle.integers.specs.Within.{Within}

-- Each number is small enough for a signed number of 32 bits.
abbrev pub Small : List ℤ → Type 0
Small [] = Unit {0}
Small (z ∷ zs) = Within (2 ^ 24) z × Small zs
