-- The overlap rule of one box, as the functions ask it. Definitions only; no public promise cites them.
use Rattle.std.specs.Prelude.{Bool, ◌&&◌, List, [], ◌∷◌, ℕ, ℤ, pos, ◌+ℤ◌, ◌-ℤ◌}
use Rattle.std.specs.Int.Signed.{le_z}
use Rattle.std.specs.Int.{int_min, int_max}
use Rattle.geometry.specs.Bounds.{coordinate_max, offset_max, normal_max, extent_max, each}
use Rattle.geometry.specs.declared.Point.{Point}
use Rattle.geometry.specs.declared.Triangle.{Triangle}
use Rattle.geometry.specs.Geometry.{x_of, y_of, z_of}
use Rattle.overlap.specs.Rule.{normal, box_holds}
use Rattle.forms.specs.Triangle.{edge_form, plane_form}

-- The triangle's box and the box meet on every axis.
abbrev pub boxes_hold : Triangle → (p d : Point) → Bool
boxes_hold t p d = box_holds t p d x_of && box_holds t p d y_of && box_holds t p d z_of

-- On an axis, the range of three coordinates meets that from `low` to `low` + d.
abbrev pub axis_meets : (a0 a1 a2 low d : ℤ) → Bool
axis_meets a0 a1 a2 low d = le_z (int_min (int_min a0 a1) a2) (low +ℤ d) && le_z low (int_max (int_max a0 a1) a2)

-- ---- a triangle that is measured from the box's lowest corner: the box is cell (0, 0, 0) of its forms
-- The plane with normal n through the corner v.
unfoldable pub plane_meets : (n v : Point) (d : ℤ) → Bool
plane_meets n v d = let f = plane_form n v (pos 0) d in le_z (pos 0) f.at && le_z f.at f.reach

-- In the plane of two axes, the edge from (va, vb) to (wa, wb); and all three.
unfoldable pub edge_meets : (n va vb wa wb d : ℤ) → Bool
edge_meets n va vb wa wb d = le_z (pos 0) (edge_form n (wa -ℤ va) (wb -ℤ vb) va vb (pos 0) d).c

abbrev pub edges_meet : (n a0 b0 a1 b1 a2 b2 d : ℤ) → Bool
edges_meet n a0 b0 a1 b1 a2 b2 d = edge_meets n a0 b0 a1 b1 d && edge_meets n a1 b1 a2 b2 d && edge_meets n a2 b2 a0 b0 d

unfoldable pub forms_meet : Triangle → (d : ℤ) → Bool
forms_meet t d =
    let n = normal t in
    let v0 = t.v0 in
    let v1 = t.v1 in
    let v2 = t.v2 in
    plane_meets n v0 d
    && edges_meet n.z v0.x v0.y v1.x v1.y v2.x v2.y d
    && edges_meet n.x v0.y v0.z v1.y v1.z v2.y v2.z d
    && edges_meet n.y v0.z v0.x v1.z v1.x v2.z v2.x d

-- ---- what the functions ask: their numbers' bounds, in their parameters' order
abbrev pub axis_bounds : List ℕ
axis_bounds = each coordinate_max 4 (extent_max ∷ [])

abbrev pub edge_bounds : List ℕ
edge_bounds = normal_max ∷ each offset_max 4 (extent_max ∷ [])

abbrev pub edges_bounds : List ℕ
edges_bounds = normal_max ∷ each offset_max 6 (extent_max ∷ [])
