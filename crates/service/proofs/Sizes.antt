-- How large the numbers are of the lowest corner of a cell's box, in a file's grid.
--     corner-bounded
-- Assumes nothing.
use mathlib.Core.List.{[], ◌∷◌}
use Prim.Native.Nat.{ℕ, ◌^◌, ◌<◌}
use native.Mathlib.Omega.{arith}
use lib.Dec.{lit≤}
use lib.IntN.{ℤ, pos, ◌+ℤ◌, ◌*ℤ◌}
use Rattle.integers.specs.Within.{Within}
use Rattle.integers.proofs.Expr.{var, ◌⊕◌, ◌⊗◌}
use Rattle.integers.proofs.Machine.{bound}
use Rattle.integers.proofs.Bounds.{within-weaken}
use Rattle.geometry.specs.Bounds.{coordinate_max, BoundedPoint}
use Rattle.grid.specs.declared.Grid.{Grid}
use Rattle.grid.specs.Grid.{cell_count, box_of_cell, lattice_of}
use Rattle.grid.specs.Usable.{GridWithin}
use Rattle.grid.proofs.Numbers.{x_lt, y-lt, z-lt}

-- on an axis
along-within : {o e : ℤ} (i : ℕ) → Within (2 ^ 13) o → i < 64 → Within (2 ^ 8) e → Within coordinate_max (o +ℤ pos i *ℤ e)
along-within {o} {e} i h l k =
    within-weaken (lit≤ tt) (bound (o ∷ pos i ∷ e ∷ []) (var 0 ⊕ var 1 ⊗ var 2) (2 ^ 13 ∷ 64 ∷ 2 ^ 8 ∷ []) (h, (record { within = omega arith }, (k, tt))))

pub corner-bounded : (g : Grid) (n : ℕ) → GridWithin (2 ^ 13) (2 ^ 8) g → n < cell_count g → BoundedPoint (box_of_cell g (lattice_of g) n)
corner-bounded g n w l = record {
  x = along-within _ w.origin.x (omega (arith, x_lt g.nx g.ny n w.x.some, w.x.most)) w.edge;
  y = along-within _ w.origin.y (omega (arith, y-lt g.nx g.ny n w.y.some, w.y.most)) w.edge;
  z = along-within _ w.origin.z (omega (arith, z-lt g.nx g.ny g.nz n w.x.some w.y.some l, w.z.most)) w.edge;
}
