-- A bound on the size of an integer, and bounds for a list of them: what a function of signed numbers requires of its parameters.
use Rattle.std.specs.Prelude.{List, [], ◌∷◌, ℕ, ◌≤◌, ℤ, nat_abs}

-- The size of z is at most B: −B ≤ z ≤ B.
pub record Within (B : ℕ) (z : ℤ) : Type 0 where
  pub within : nat_abs z ≤ B

-- Each number has the bound that stands at its place. A number past the last bound is 0.
abbrev pub Withins : List ℕ → List ℤ → Type 0
Withins bs [] = Unit {0}
Withins [] (z ∷ zs) = Within 0 z × Withins [] zs
Withins (b ∷ bs) (z ∷ zs) = Within b z × Withins bs zs
