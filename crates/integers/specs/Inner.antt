-- The quotient that is rounded down. Definitions only; no public promise cites them.
use Rattle.std.specs.Prelude.{ℤ, ◌+ℤ◌, ◌*ℤ◌, ◌≤ℤ◌, ◌<ℤ◌}

-- For a positive d, q is x / d rounded down: the greatest integer whose multiple d · q is at most x.
pub record Floor (x d q : ℤ) : Type 0 where
  pub low : (d *ℤ q) ≤ℤ x
  pub high : x <ℤ (d *ℤ q +ℤ d)
