-- Laws of usable grids.
--     grid-weaken, usable-weaken    with larger bounds
--     usable-boxes                  the boxes that are the cells themselves
-- Assumes nothing.
use Prim.Native.Nat.{ℕ, ◌≤◌}
use lib.Dec.{lit≤}
use Rattle.integers.proofs.Bounds.{within-weaken}
use Rattle.integers.proofs.Laws.{<→≤}
use Rattle.grid.specs.declared.Grid.{Grid}
use Rattle.grid.specs.Grid.{lattice_of}
use Rattle.grid.specs.Usable.{GridWithin, UsableGrid, BoundedGrid, UsableLattice}

module _ {C E D F : ℕ} {g : Grid} (c : C ≤ D) (e : E ≤ F) where
  pub grid-weaken : GridWithin C E g → GridWithin D F g
  grid-weaken w =
      let o = w.origin in
      record {
        x = w.x;
        y = w.y;
        z = w.z;
        origin = record { x = within-weaken c o.x; y = within-weaken c o.y; z = within-weaken c o.z };
        edge = within-weaken e w.edge;
      }

  pub usable-weaken : UsableGrid C E g → UsableGrid D F g
  usable-weaken u = record { within = grid-weaken u.within; positive = u.positive }

pub usable-boxes : {g : Grid} → BoundedGrid g → UsableLattice (lattice_of g)
usable-boxes u = record {
  first = u.within.origin;
  positive = u.positive;
  step = u.within.edge;
  extent = within-weaken (lit≤ tt) u.within.edge;
  thick = <→≤ u.positive;
}
