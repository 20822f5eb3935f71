-- The overlap rule for a triangle and a box, after Schwarz and Seidel (2010), in whole numbers. Definitions only.
-- The rule is stated for a box with lowest corner p and extent d; a cell with edge s is the box with extent (s, s, s).
use Rattle.std.specs.Prelude.{Bool, cond, ◌&&◌, ℤ, pos, neg_ℤ, ◌+ℤ◌, ◌-ℤ◌, ◌*ℤ◌}
use Rattle.std.specs.Int.Signed.{le_z, lt_z}
use Rattle.std.specs.Int.{int_min, int_max}
use Rattle.geometry.specs.declared.Point.{Point}
use Rattle.geometry.specs.declared.Triangle.{Triangle}
use Rattle.geometry.specs.Geometry.{point, minus, dot, cross, Axis, x_of, y_of, z_of}

-- The edges e0, e1 and e2, and the normal n.
abbrev pub edge0 : Triangle → Point
edge0 t = minus t.v1 t.v0

abbrev pub edge1 : Triangle → Point
edge1 t = minus t.v2 t.v1

abbrev pub edge2 : Triangle → Point
edge2 t = minus t.v0 t.v2

abbrev pub normal : Triangle → Point
normal t = cross (minus t.v1 t.v0) (minus t.v2 t.v0)

-- ---- boxes
-- On an axis, the least and the greatest corner value.
abbrev pub least3 : Axis → Triangle → ℤ
least3 a t = int_min (int_min (a t.v0) (a t.v1)) (a t.v2)

abbrev pub greatest3 : Axis → Triangle → ℤ
greatest3 a t = int_max (int_max (a t.v0) (a t.v1)) (a t.v2)

-- On an axis, the least corner value is at most p + d; the greatest is at least p; both.
abbrev pub least_holds : Triangle → (p d : Point) → Axis → Bool
least_holds t p d a = le_z (least3 a t) (a p +ℤ a d)

abbrev pub greatest_holds : Triangle → (p : Point) → Axis → Bool
greatest_holds t p a = le_z (a p) (greatest3 a t)

abbrev pub box_holds : Triangle → (p d : Point) → Axis → Bool
box_holds t p d a = least_holds t p d a && greatest_holds t p a

-- ---- plane
-- A side of the box on an axis, and the box's corner on a side of each axis.
pub data Side : Type 0 where
  low : Side
  high : Side

abbrev pub step : Side → ℤ → ℤ
step low d = pos 0
step high d = d

abbrev pub corner : (p d : Point) → (α β γ : Side) → Point
corner p d α β γ = point (p.x +ℤ step α d.x) (p.y +ℤ step β d.y) (p.z +ℤ step γ d.z)

-- n · (q − v0)
abbrev pub offset : Triangle → Point → ℤ
offset t q = dot (normal t) (minus q t.v0)

-- An operation, as the least or the greatest of two, over the eight corners.
abbrev pub over_sides : (ℤ → ℤ → ℤ) → (Side → ℤ) → ℤ
over_sides op f = op (f low) (f high)

abbrev pub over_corners : (ℤ → ℤ → ℤ) → (Side → Side → Side → ℤ) → ℤ
over_corners op f = over_sides op (λ α. over_sides op (λ β. over_sides op (λ γ. f α β γ)))

abbrev pub least8 : Triangle → (p d : Point) → ℤ
least8 t p d = over_corners int_min (λ α β γ. offset t (corner p d α β γ))

abbrev pub greatest8 : Triangle → (p d : Point) → ℤ
greatest8 t p d = over_corners int_max (λ α β γ. offset t (corner p d α β γ))

-- Over the box's corners q, n · (q − v0) has least value ≤ 0 and greatest value ≥ 0.
abbrev pub plane_holds : Triangle → (p d : Point) → Bool
plane_holds t p d = le_z (least8 t p d) (pos 0) && le_z (pos 0) (greatest8 t p d)

-- ---- edges
-- A number, negated when n < 0.
abbrev pub turned : ℤ → ℤ → ℤ
turned n c = cond (lt_z n (pos 0)) (neg_ℤ c) c

-- In the plane of the axes a and b, for the edge e with starting corner v: m = (−e.b, e.a), negated when n < 0, where n is the
-- normal's component on the third axis. The value is m · p − m · v + max(0, d.a × m.a) + max(0, d.b × m.b).
abbrev pub edge_value : (a b : Axis) (n : ℤ) (e v : Point) (p d : Point) → ℤ
edge_value a b n e v p d =
    let ma = turned n (neg_ℤ (b e)) in
    let mb = turned n (a e) in
    ma *ℤ a p +ℤ mb *ℤ b p -ℤ (ma *ℤ a v +ℤ mb *ℤ b v) +ℤ int_max (pos 0) (a d *ℤ ma) +ℤ int_max (pos 0) (b d *ℤ mb)

-- The value is ≥ 0 for each of the three edges.
abbrev pub edges_hold : Triangle → (p d : Point) → (a b : Axis) (n : ℤ) → Bool
edges_hold t p d a b n =
    le_z (pos 0) (edge_value a b n (edge0 t) t.v0 p d)
    && le_z (pos 0) (edge_value a b n (edge1 t) t.v1 p d)
    && le_z (pos 0) (edge_value a b n (edge2 t) t.v2 p d)

-- ---- the rule: boxes, plane, and edges in XY, YZ and ZX
unfoldable pub overlaps_box : Triangle → (p d : Point) → Bool
overlaps_box t p d =
    box_holds t p d x_of
    && box_holds t p d y_of
    && box_holds t p d z_of
    && plane_holds t p d
    && edges_hold t p d x_of y_of (normal t).z
    && edges_hold t p d y_of z_of (normal t).x
    && edges_hold t p d z_of x_of (normal t).y
