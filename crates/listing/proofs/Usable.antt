-- What a usable grid has.
--     side             a side that fits has 1 to 64 cells
--     usable-grid      a usable grid has three such sides, and room in the map
--     most-layers      so its cells in all are at most those of 64 layers
--     most-cells       and at most 64 × 64 × 64
-- Assumes nothing.
use mathlib.Core.Bool.{Bool, true, false, ◌&&◌}
use mathlib.Core.Path.{◌≡◌, refl}
use Prim.Native.Nat.{ℕ, ◌*◌, ◌≤◌}
use native.Mathlib.Nat.{mul-le-mul, mul-le-mul_left}
use borrow.Author.Tests.{leb-true}
use lib.Dec.{leb}
use Rattle.grid.specs.declared.Grid.{Grid}
use Rattle.grid.specs.Grid.{cell_count}
use Rattle.grid.specs.Usable.{OneTo64}
use Rattle.map.specs.Map.{map_length}
use Rattle.listing.specs.Listing.{side_fits, usable}

and_left : (p q : Bool) → (p && q) ≡ true → p ≡ true
and_left true q e = refl
and_left false q e = e

and_right : (p q : Bool) → (p && q) ≡ true → q ≡ true
and_right true q e = e
and_right false q e = cc

pub side : (n : ℕ) → side_fits n ≡ true → OneTo64 n
side n e = record { some = leb-true 1 n (and_left (leb 1 n) (leb n 64) e); most = leb-true n 64 (and_right (leb 1 n) (leb n 64) e) }

module _ (len : ℕ) (g : Grid) (e : usable len g ≡ true) where
  pub usable-grid : OneTo64 g.nx × OneTo64 g.ny × OneTo64 g.nz × (map_length (cell_count g) ≤ len)
  unfolding usable
  usable-grid =
      let fits = leb (map_length (cell_count g)) len in
      let zs = side_fits g.nz && fits in
      let ys = side_fits g.ny && zs in
      let e1 = and_right (side_fits g.nx) ys e in
      let e2 = and_right (side_fits g.ny) zs e1 in (
        side g.nx (and_left (side_fits g.nx) ys e),
        side g.ny (and_left (side_fits g.ny) zs e1),
        side g.nz (and_left (side_fits g.nz) fits e2),
        leb-true (map_length (cell_count g)) len (and_right (side_fits g.nz) fits e2),
      )

  pub most-layers : cell_count g ≤ g.nx * g.ny * 64
  most-layers = mul-le-mul_left (g.nx * g.ny) usable-grid.2.most

  pub most-cells : cell_count g ≤ 64 * 64 * 64
  most-cells = let (x, y, z, room) = usable-grid in mul-le-mul (mul-le-mul x.most y.most) z.most
