-- `service::corner_of`: the cell's place on each axis is in the grid.
use mathlib.Core.Path.{◌≡◌, ◌∙◌}
use Prim.Native.Nat.{ℕ, ◌<◌, ◌≤◌}
use native.Mathlib.Omega.{arith}
use lib.Dec.{lit<}
use lib.IntN.{ℤ, pos, ◌+ℤ◌, ◌*ℤ◌}
use mir.Syntax.{w64}
use mir.Val.{to_z, of_z}
use mir.Facts.{to_z-of_z}
use Rattle.integers.specs.Within.{Within}
use Rattle.integers.proofs.Bounds.{within-fits}
use Rattle.integers.proofs.Machine.{back}
use Rattle.geometry.specs.Bounds.{coordinate_max, step_max}
use Rattle.grid.proofs.Numbers.{x_lt, y-lt, z-lt}
use Rattle.service.proofs.corner_of.Goals as goal

-- a coordinate of the first box's corner, the step, and a place, as `along` is given them
module _ {step : ℤ} (k : Within step_max step) where
  step_is : to_z w64 (of_z w64 step) ≡ step
  step_is = to_z-of_z {w = w64} (within-fits (lit< tt) k)

  asked : {o : ℤ} {i n : ℕ} → Within coordinate_max o → i < n → n ≤ 64 → Within coordinate_max (to_z w64 (of_z w64 o)) × (i ≤ 64) × Within step_max (to_z w64 (of_z w64 step))
  asked {o} h l m = (rw (to_z-of_z {w = w64} {z = o} (within-fits (lit< tt) h)) h, omega arith, rw step_is k)

  along-is : {o r : ℤ} (i : ℕ) → Within coordinate_max o → r ≡ to_z w64 (of_z w64 o) +ℤ pos i *ℤ to_z w64 (of_z w64 step) → r ≡ o +ℤ pos i *ℤ step
  along-is {o} i h e = e ∙ (λ k. to_z-of_z {w = w64} {z = o} (within-fits (lit< tt) h) k +ℤ pos i *ℤ step_is k)

pub along-x-requires : goal.along-x-requires
along-x-requires c =
    let g = c.args.g in
    let l = c.requires.1 in
    let w = c.requires.0.within in
    asked l.step l.first.x (x_lt g.nx g.ny c.args.cell w.x.some) w.x.most

pub along-y-requires : goal.along-y-requires
along-y-requires c =
    let g = c.args.g in
    let l = c.requires.1 in
    let w = c.requires.0.within in
    asked l.step l.first.y (y-lt g.nx g.ny c.args.cell w.y.some) w.y.most

pub along-z-requires : goal.along-z-requires
along-z-requires c =
    let g = c.args.g in
    let l = c.requires.1 in
    let w = c.requires.0.within in
    asked l.step l.first.z (z-lt g.nx g.ny g.nz c.args.cell w.x.some w.y.some c.requires.2) w.z.most

pub returns : goal.returns
returns c =
    let l = c.requires.1 in
    let first = l.first in
    λ k. record {
      x = (back w64 c.along-x.type_inv ∙ along-is l.step _ first.x c.along-x.ensures) k;
      y = (back w64 c.along-y.type_inv ∙ along-is l.step _ first.y c.along-y.ensures) k;
      z = (back w64 c.along-z.type_inv ∙ along-is l.step _ first.z c.along-z.ensures) k;
    }
