-- The points of a route.
--     points-length, point-is        the list of a route's points
--     inside-grid, point-bounded     a point that passes question 10
-- Assumes nothing.
use mathlib.Core.Bool.{true, ◌&&◌, and-eq-true_iff}
use mathlib.Core.List.{List}
use mathlib.Core.Path.{◌≡◌}
use Prim.Native.Nat.{ℕ, ◌*◌, ◌<◌, ◌≤◌, ◌^◌}
use lib.Dec.{lit≤}
use lib.IntN.{ℤ, pos, ◌+ℤ◌, ◌*ℤ◌}
use lib.ListN.{length}
use lib.Signed.{◌≤ℤ◌}
use Rattle.integers.specs.Within.{Within}
use Rattle.integers.proofs.Bounds.{within-add, within-mul, within-weaken, within-between}
use Rattle.integers.proofs.Omega.{le-true}
use Rattle.geometry.specs.declared.Point.{Point}
use Rattle.geometry.specs.Bounds.{coordinate_max, BoundedPoint}
use Rattle.geometry.specs.Geometry.{point, Axis, x_of, y_of, z_of}
use Rattle.grid.specs.declared.Grid.{Grid}
use Rattle.grid.specs.Grid.{inside_axis, inside}
use Rattle.grid.specs.Usable.{GridWithin}
use Rattle.map.proofs.Maps.{length-tabulate, get_d_tabulate}
use Rattle.reach.specs.Inner.{InsideOn, InsideGrid}
use Rattle.layout.specs.Values.{point_from}
use Rattle.demand.specs.Route.{point_count, points_of, point_at}

-- ---- points
module _ (ns : List ℤ) where
  pub points-length : length (points_of ns) ≡ point_count ns
  unfolding points_of
  points-length = length-tabulate (λ m. point_from ns (3 * m)) (point_count ns)

  pub point-is : (m : ℕ) → m < point_count ns → point_at (points_of ns) m ≡ point_from ns (3 * m)
  unfolding points_of
  point-is m h = get_d_tabulate (λ m. point_from ns (3 * m)) (point_count ns) m (point (pos 0) (pos 0) (pos 0)) h

inside-axis : (g : Grid) (p : Point) (a : Axis) → inside_axis g p a ≡ true → InsideOn g p a
inside-axis g p a e =
    let (low, high) = (and-eq-true_iff _ _).0 e in
    record { from = le-true _ _ low; to = le-true _ _ high }

pub inside-grid : {g : Grid} {p : Point} → inside g p ≡ true → InsideGrid g p
unfolding inside
inside-grid {g} {p} e =
    let (x, yz) = (and-eq-true_iff (inside_axis g p x_of) (inside_axis g p y_of && inside_axis g p z_of)).0 e in
    let (y, z) = (and-eq-true_iff (inside_axis g p y_of) (inside_axis g p z_of)).0 yz in
    record { x = inside-axis g p x_of x; y = inside-axis g p y_of y; z = inside-axis g p z_of z }

-- on an axis, a coordinate from the origin to the far end, origin + n × edge
axis-bounded : {o e q : ℤ} {n : ℕ} → Within (2 ^ 13) o → Within (2 ^ 8) e → n ≤ 64 → (o ≤ℤ q) × (q ≤ℤ (o +ℤ pos n *ℤ e)) → Within coordinate_max q
axis-bounded {n = n} o e h i =
    within-between (within-weaken (lit≤ tt) o) (within-weaken (lit≤ tt) (within-add o (within-mul {A = 64} {a = pos n} (record { within = h }) e))) i.0 i.1

pub point-bounded : {g : Grid} {p : Point} → GridWithin (2 ^ 13) (2 ^ 8) g → inside g p ≡ true → BoundedPoint p
point-bounded w e =
    let i = inside-grid e in
    record {
      x = axis-bounded w.origin.x w.edge w.x.most (i.x.from, i.x.to);
      y = axis-bounded w.origin.y w.edge w.y.most (i.y.from, i.y.to);
      z = axis-bounded w.origin.z w.edge w.z.most (i.z.from, i.z.to);
    }
