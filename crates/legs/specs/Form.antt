-- The numbers of a slab, and how large they are. Definitions only.
use Rattle.std.specs.Prelude.{ℤ, pos, ◌≤ℤ◌}
use Rattle.integers.specs.Within.{Within}
use Rattle.runs.specs.Run.{slope_max, reach_max}

-- A slab in the plane of two axes: the cells at which a × i + b × j + c is from 0 to `reach`, both included.
pub record Form : Type 0 where
  pub a : ℤ
  pub b : ℤ
  pub c : ℤ
  pub reach : ℤ

-- The form does not fall with i, and its numbers are as small as runs of cells ask.
pub record BoundedForm (s : Form) : Type 0 where
  pub rises : pos 0 ≤ℤ s.a
  pub a : Within slope_max s.a
  pub b : Within slope_max s.b
  pub c : Within reach_max s.c
  pub reach : Within reach_max s.reach
