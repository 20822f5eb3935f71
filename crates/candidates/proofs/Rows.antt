-- What holds of each row of a list.
--     at_row   if it holds of the row that is 0, it holds of every row k
-- Assumes nothing.
use mathlib.Core.List.{List, [], ◌∷◌}
use Prim.Native.Nat.{ℕ, zero, suc}
use lib.IntN.{pos}
use Rattle.geometry.specs.declared.Point.{Point}
use Rattle.geometry.specs.Geometry.{point}
use Rattle.candidates.specs.Candidates.{row}

abbrev pub Each : (P : Point → Type 0) → List Point → Type 0
Each P [] = Unit {0}
Each P (r ∷ rs) = P r × Each P rs

pub at_row : (P : Point → Type 0) (rs : List Point) → P (point (pos 0) (pos 0) (pos 0)) → Each P rs → (k : ℕ) → P (row rs k)
at_row P [] z h k = z
at_row P (r ∷ rs) z h zero = h.0
at_row P (r ∷ rs) z h (suc k) = at_row P rs z h.1 k
