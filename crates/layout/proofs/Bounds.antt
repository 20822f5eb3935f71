-- What holds of a header and of a record whatever the bytes are: the layout's widths bound each number.
--     header-bounded     a header's values
--     record-within      a record's corners, in version 1
--     kind-lt            its kind
-- Assumes nothing.
use mathlib.Core.List.{List}
use Prim.Native.Nat.{ℕ, ◌+◌, ◌-◌, ◌^◌, ◌<◌, ◌≤◌}
use native.Mathlib.Nat.{le_of_lt}
use native.Mathlib.Omega.{arith}
use lib.Dec.{lit≤}
use lib.Pow.{pow_mono}
use Rattle.bits.specs.Field.{field_at}
use Rattle.bits.proofs.Fields.{field_lt}
use Rattle.bits.proofs.Signs.{signed-within}
use Rattle.geometry.specs.Bounds.{PointWithin, TriangleWithin}
use Rattle.grid.specs.Usable.{OneTo64, GridWithin}
use Rattle.grid.proofs.Usable.{grid-weaken}
use Rattle.layout.specs.declared.Layout.{Layout}
use Rattle.layout.specs.Layout.{version1}
use Rattle.layout.specs.Values.{header_in, record_in}
use Rattle.layout.specs.Taken.{point_in, BoundedHeader}

-- three signed fields, and a number of cells
point-within : (s : List ℕ) (p w : ℕ) → 1 ≤ w → PointWithin (2 ^ (w - 1)) (point_in s p w)
point-within s p w h = record { x = signed-within s p w h; y = signed-within s (p + w) w h; z = signed-within s (p + w + w) w h }

side : (s : List ℕ) (p : ℕ) → OneTo64 (field_at s p 6 + 1)
side s p = record { some = omega arith; most = omega (arith, field_lt s p 6) }

module _ (l : Layout) (s : List ℕ) where
  pub grid-within : GridWithin (2 ^ (l.coordinate - 1)) (2 ^ l.edge) (header_in l s).grid
  unfolding header_in
  grid-within = record {
    x = side s 4;
    y = side s 10;
    z = side s 16;
    origin = point-within s (22 + l.edge) l.coordinate l.coordinate_some;
    edge = record { within = le_of_lt (field_lt s 22 l.edge) };
  }

  pub count-lt : (header_in l s).count < 4096
  unfolding header_in
  count-lt = field_lt s (22 + l.edge + l.coordinate + l.coordinate + l.coordinate) 12

  pub header-bounded : BoundedHeader (header_in l s)
  header-bounded = record { grid = grid-weaken (pow_mono {i = l.coordinate - 1} {j = 24} (omega (arith, l.coordinate_most))) (pow_mono l.edge_most) grid-within; count = count-lt }

pub kind-lt : (s : List ℕ) → (record_in version1 s).kind < 4
unfolding record_in
kind-lt s = field_lt s 0 2

pub record-within : (s : List ℕ) → TriangleWithin (2 ^ 13) (record_in version1 s).triangle
unfolding record_in
record-within s = record { v0 = point-within s 2 14 (lit≤ tt); v1 = point-within s 44 14 (lit≤ tt); v2 = point-within s 86 14 (lit≤ tt) }
