-- How a leg comes to boxes on an axis, and how large the numbers are. Definitions only.
use Rattle.std.specs.Prelude.{ℕ, ◌^◌, ℤ, pos, ◌<ℤ◌}
use Rattle.integers.specs.Within.{Within}
use Rattle.geometry.specs.Bounds.{step_max}
use Rattle.entry.specs.Ratio.{Ratio}

-- To box i at (num + slope × i) / den.
pub record Approach : Type 0 where
  pub num : ℤ
  pub slope : ℤ
  pub den : ℤ

abbrev pub fraction_max : ℕ
fraction_max = 2 ^ 21

abbrev pub axis_entry_max : ℕ
axis_entry_max = 2 ^ 20

pub record BoundedRatio (f : Ratio) : Type 0 where
  pub num : Within fraction_max f.num
  pub den : Within fraction_max f.den

pub record BoundedApproach (c : Approach) : Type 0 where
  pub num : Within axis_entry_max c.num
  pub slope : Within step_max c.slope
  pub den : Within axis_entry_max c.den
  pub positive : pos 0 <ℤ c.den
