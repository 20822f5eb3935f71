-- The grid of a header whose fields can hold its numbers is one that can be computed with.
--     grid-held     its bounds
-- Assumes nothing.
use mathlib.Core.Bool.{true}
use mathlib.Core.List.{List}
use mathlib.Core.Path.{◌≡◌}
use Prim.Native.Nat.{ℕ, ◌-◌, ◌^◌}
use native.Mathlib.Nat.{le_of_lt}
use native.Mathlib.Omega.{arith}
use lib.Dec.{lit<}
use lib.IntN.{ℤ, pos, nat_abs, ◌-ℤ◌}
use lib.ListN.{get_or}
use lib.Pow.{pow_mono}
use Rattle.integers.specs.Within.{Within}
use Rattle.integers.proofs.Bounds.{within-weaken}
use Rattle.integers.proofs.Omega.{zarith, -!, abs! }
use Rattle.grid.specs.Usable.{OneTo64, GridWithin}
use Rattle.layout.specs.declared.Layout.{Layout}
use Rattle.layout.specs.Layout.{field, less_one, signed, header_fields}
use Rattle.layout.specs.Values.{header_from}
use Rattle.layout_write.specs.Writing.{can_hold, can_hold_all}
use Rattle.layout_write.proofs.Held.{held_at, plain-held, less-one-held, signed-held}

pub side : (z : ℤ) → can_hold (field less_one 6) z ≡ true → OneTo64 (nat_abs z)
side z h =
    let u = less-one-held 6 z h in
    record {
      some = omega (zarith, u.some, -! z (pos 1), abs! z);
      most = omega (zarith, u.some, u.small, -! z (pos 1), abs! z, abs! (z -ℤ pos 1));
    }

module _ (l : Layout) (ns : List ℤ) (h : can_hold_all (header_fields l) ns ≡ true) where
  coordinate : (z : ℤ) → can_hold (field signed l.coordinate) z ≡ true → Within (2 ^ 24) z
  coordinate z k =
      within-weaken (pow_mono {i = l.coordinate - 1} {j = 24} (omega (arith, l.coordinate_most))) (signed-held l.coordinate z k)

  pub grid-held : GridWithin (2 ^ 24) (2 ^ 25) (header_from ns).grid
  grid-held =
      let z : ℕ → ℤ = λ i. get_or ns i (pos 0) in
      let held = held_at (header_fields l) ns h in
      record {
        x = side (z 1) (held 1 (lit< tt));
        y = side (z 2) (held 2 (lit< tt));
        z = side (z 3) (held 3 (lit< tt));
        origin = record { x = coordinate (z 5) (held 5 (lit< tt)); y = coordinate (z 6) (held 6 (lit< tt)); z = coordinate (z 7) (held 7 (lit< tt)) };
        edge = within-weaken (pow_mono l.edge_most) (record { within = le_of_lt (plain-held l.edge (z 4) (held 4 (lit< tt))).small });
      }
