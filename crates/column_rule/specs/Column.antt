-- The test of a cell by its column. The columns run along the third axis. Definitions only.
use Rattle.std.specs.Prelude.{Bool, ◌&&◌, ◌||◌, ℕ, ℤ, pos, ◌+ℤ◌, ◌*ℤ◌}
use Rattle.std.specs.Int.Signed.{le_z}
use Rattle.geometry.specs.declared.Point.{Point}
use Rattle.geometry.specs.declared.Triangle.{Triangle}
use Rattle.geometry.specs.Geometry.{x_of, y_of, z_of}
use Rattle.overlap.specs.Rule.{normal, plane_holds, edges_hold}
use Rattle.forms.specs.declared.Edge.{Edge}
use Rattle.forms.specs.declared.PlaneForm.{PlaneForm}
use Rattle.forms.specs.Form.{value_of}
use Rattle.runs.specs.Run.{passes, in_slab}

-- What the overlap rule asks beyond the boxes: the plane, and the edges in three planes.
unfoldable pub forms_hold : Triangle → (p d : Point) → Bool
forms_hold t p d =
    plane_holds t p d && edges_hold t p d x_of y_of (normal t).z && edges_hold t p d y_of z_of (normal t).x && edges_hold t p d z_of x_of (normal t).y

-- An edge's form of uv at the column (u, v).
abbrev pub uv_of : Edge → (u v : ℤ) → ℤ
uv_of e u v = value_of e.uv u v

-- The plane passes cell k of the column.
abbrev pub plane_passes : PlaneForm → (u v : ℤ) → ℕ → Bool
plane_passes p u v = in_slab p.w (p.at +ℤ p.u *ℤ u +ℤ p.v *ℤ v) p.reach

-- An edge passes cell k of the column, where x is its form of uv there: the column's square is inside of it, or its two other forms pass.
abbrev pub edge_passes : Edge → (u v x : ℤ) → ℕ → Bool
edge_passes e u v x k = le_z e.inside x || (passes e.vw.b (e.vw.a *ℤ v +ℤ e.vw.c) k && passes e.wu.a (e.wu.b *ℤ u +ℤ e.wu.c) k)

-- No edge rules out the column's square, by the values of the three edges' forms of uv there.
abbrev pub square_passes : (x0 x1 x2 : ℤ) → Bool
square_passes x0 x1 x2 = le_z (pos 0) x0 && le_z (pos 0) x1 && le_z (pos 0) x2

-- Cell k of the column passes the plane and each edge.
abbrev pub cell_along : PlaneForm → (e0 e1 e2 : Edge) → (u v x0 x1 x2 : ℤ) → ℕ → Bool
cell_along p e0 e1 e2 u v x0 x1 x2 k = plane_passes p u v k && edge_passes e0 u v x0 k && edge_passes e1 u v x1 k && edge_passes e2 u v x2 k

-- The column's square, and its cell k.
unfoldable pub column_test : PlaneForm → (e0 e1 e2 : Edge) → (u v : ℤ) → ℕ → Bool
column_test p e0 e1 e2 u v k =
    let x0 = uv_of e0 u v in
    let x1 = uv_of e1 u v in
    let x2 = uv_of e2 u v in
    square_passes x0 x1 x2 && cell_along p e0 e1 e2 u v x0 x1 x2 k
