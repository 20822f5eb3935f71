-- What the functions ask of weights. Definitions only; no public promise cites them.
use Rattle.std.specs.Prelude.{◌≡◌, ℕ, ◌+◌, ◌^◌, ◌<◌, pos}
use Rattle.weights.specs.declared.Weights.{Weights}

-- Whole numbers, none negative, that add to at least 1 and less than 2^30.
pub record FewWeights (w : Weights) : Type 0 where
  pub n0 : ℕ
  pub n1 : ℕ
  pub n2 : ℕ
  pub w0 : w.w0 ≡ pos n0
  pub w1 : w.w1 ≡ pos n1
  pub w2 : w.w2 ≡ pos n2
  pub some : 0 < n0 + n1 + n2
  pub few : n0 + n1 + n2 < 2 ^ 30
