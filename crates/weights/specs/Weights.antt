-- Weights by which a triangle reaches a box, as the code gives them. Definitions only.
use Rattle.std.specs.Prelude.{◌≡◌, ℕ, ◌+◌, ◌<◌, pos}
use Rattle.geometry.specs.declared.Point.{Point}
use Rattle.geometry.specs.declared.Triangle.{Triangle}
use Rattle.reach.specs.Reaches.{ReachesBox}
use Rattle.weights.specs.declared.Weights.{Weights}

-- w holds weights by which the triangle reaches the box: whole, none negative, not all zero, with the weighted sum between the box's sides on every axis; and
-- their sum is below M.
pub record Weighs (M : ℕ) (t : Triangle) (p d : Point) (w : Weights) : Type 0 where
  pub reaches : ReachesBox t p d
  pub w0 : w.w0 ≡ pos reaches.w0
  pub w1 : w.w1 ≡ pos reaches.w1
  pub w2 : w.w2 ≡ pos reaches.w2
  pub few : reaches.w0 + reaches.w1 + reaches.w2 < M
