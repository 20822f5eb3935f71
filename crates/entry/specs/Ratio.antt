-- The numbers of a fraction: what `Fraction` stands for in the definitions. Definitions only.
use Rattle.std.specs.Prelude.{ℤ}

-- num / den, where den is positive. It need not be in lowest terms.
pub record Ratio : Type 0 where
  pub num : ℤ
  pub den : ℤ
