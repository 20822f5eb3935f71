-- The forms of a triangle, for the boxes of a lattice's cells: linear functions of a cell's numbers i, j and k, whose signs decide the overlap rule. The corners are
-- measured from the lowest corner of the lattice's first box; `s` is the lattice's step and `d` its extent. Definitions only.
use Rattle.std.specs.Prelude.{cond, List, [], ◌∷◌, ◌≡◌, ℕ, ℤ, pos, neg_ℤ, nat_abs, ◌+ℤ◌, ◌-ℤ◌, ◌*ℤ◌}
use Rattle.std.specs.Int.Signed.{le_z}
use Rattle.integers.specs.Within.{Within}
use Rattle.std.specs.Int.{int_max}
use Rattle.geometry.specs.Bounds.{offset_max, difference_max, normal_max, step_max, extent_max, each, PointWithin}
use Rattle.geometry.specs.declared.Point.{Point}
use Rattle.geometry.specs.declared.Triangle.{Triangle}
use Rattle.geometry.specs.Geometry.{point, minus, dot}
use Rattle.overlap.specs.Rule.{normal, turned}
use Rattle.forms.specs.declared.EdgeForm.{EdgeForm}
use Rattle.forms.specs.declared.Edge.{Edge}
use Rattle.forms.specs.declared.PlaneForm.{PlaneForm}
use Rattle.forms.specs.declared.bounded.Forms.{Forms}
use Rattle.forms.specs.Form.{inside_max}
use Rattle.forms.specs.Forms.{edge_at, plane_at}

-- The component of the normal on the third axis, where (a0, b0), (a1, b1) and (a2, b2) are the corners in the plane of the axes a and b.
abbrev pub component : (a0 b0 a1 b1 a2 b2 : ℤ) → ℤ
component a0 b0 a1 b1 a2 b2 = (a1 -ℤ a0) *ℤ (b2 -ℤ b0) -ℤ (b1 -ℤ b0) *ℤ (a2 -ℤ a0)

-- In the plane of the axes a and b, for the edge (ea, eb) with starting corner (va, vb): m = (−eb, ea), negated when n < 0, where n is the normal's component on
-- the third axis. The value of the rule is s × m · (i, j) + c, where i and j are the cell's numbers on the two axes.
abbrev pub edge_form : (n ea eb va vb s d : ℤ) → EdgeForm
edge_form n ea eb va vb s d =
    let ma = turned n (neg_ℤ eb) in
    let mb = turned n ea in
    record { a = s *ℤ ma; b = s *ℤ mb; c = d *ℤ (int_max (pos 0) ma +ℤ int_max (pos 0) mb) -ℤ (ma *ℤ va +ℤ mb *ℤ vb) }

-- The value from which on a square of the plane is wholly on the edge's inner side. More than any value, where the normal is 0 on the third axis: there no square is.
abbrev pub inside_from : (n ea eb d : ℤ) → ℤ
inside_from n ea eb d = cond (le_z (pos (nat_abs n)) (pos 0)) (pos inside_max) (d *ℤ (pos (nat_abs ea) +ℤ pos (nat_abs eb)))

-- The edge from the corner p to the corner q, where n is the normal.
abbrev pub edge_between : (n p q : Point) (s d : ℤ) → Edge
edge_between n p q s d =
    let e = minus q p in
    record {
      uv = edge_form n.z e.x e.y p.x p.y s d;
      vw = edge_form n.x e.y e.z p.y p.z s d;
      wu = edge_form n.y e.z e.x p.z p.x s d;
      inside = inside_from n.z e.x e.y d;
    }

-- The plane with normal n through the corner v. With m the normal, negated when its component on the third axis is negative, the greatest m · (q − v) over the
-- corners q of a cell's box is at + u × i + v × j + w × k, and the least is less by `reach`.
abbrev pub upward : Point → Point
upward n = point (turned n.z n.x) (turned n.z n.y) (turned n.z n.z)

abbrev pub plane_form : (n v : Point) (s d : ℤ) → PlaneForm
plane_form n v s d =
    let m = upward n in
    record {
      u = s *ℤ m.x;
      v = s *ℤ m.y;
      w = s *ℤ m.z;
      at = d *ℤ (int_max (pos 0) m.x +ℤ int_max (pos 0) m.y +ℤ m.z) -ℤ dot m v;
      reach = d *ℤ (pos (nat_abs m.x) +ℤ pos (nat_abs m.y) +ℤ m.z);
    }

-- All forms of a triangle.
pub record FormsFor (t : Triangle) (s d : ℤ) (f : Forms) : Type 0 where
  pub plane : plane_at f ≡ plane_form (normal t) t.v0 s d
  pub e0 : edge_at f 0 ≡ edge_between (normal t) t.v0 t.v1 s d
  pub e1 : edge_at f 1 ≡ edge_between (normal t) t.v1 t.v2 s d
  pub e2 : edge_at f 2 ≡ edge_between (normal t) t.v2 t.v0 s d

-- ---- what the functions ask: their numbers' bounds, in their parameters' order
-- An edge, its starting corner, step and extent; a normal's component, an edge and the extent.
abbrev pub edge_bounds : List ℕ
edge_bounds = each difference_max 2 (each offset_max 2 (step_max ∷ extent_max ∷ []))

abbrev pub inside_bounds : List ℕ
inside_bounds = normal_max ∷ difference_max ∷ difference_max ∷ extent_max ∷ []

-- A normal, and the corners of an edge.
pub record EdgeReady (n p q : Point) (s d : ℤ) : Type 0 where
  pub normal-in : PointWithin normal_max n
  pub from : PointWithin offset_max p
  pub to : PointWithin offset_max q
  pub step : Within step_max s
  pub extent : Within extent_max d
