-- A placed triangle filled column by column, along each of the three axes; and a row of cells.
--     view                          a lattice's cells as they are numbered
--     placed-columns                what the columns of a placed triangle add
--     placed-ready, ready_turned    what they ask; and with the axes taken in turn
--     placed-adds, adds-turned      what they add; and with the axes taken in turn
--     row-z, row-x, row-y           a row along that axis
-- Assumes nothing.
use mathlib.Core.Bool.{Bool, true, ◌&&◌, and-eq-true_iff}
use mathlib.Core.List.{List}
use mathlib.Core.Path.{◌≡◌, refl, sym, ap, subst}
use Prim.Native.Nat.{ℕ, ◌+◌, ◌*◌, ◌≤◌}
use borrow.Author.Tests.{eqb-true}
use lib.Dec.{eqb}
use lib.IntN.{ℤ, pos, ◌+ℤ◌, ◌*ℤ◌}
use lib.Signed.{◌≤ℤ◌, le_z}
use Rattle.integers.proofs.Omega.{le-true}
use Rattle.integers.proofs.Laws.{<→≤}
use Rattle.geometry.specs.declared.Triangle.{Triangle}
use Rattle.geometry.specs.Bounds.{BoundedTriangle}
use Rattle.geometry.specs.Geometry.{Axis, x_of, y_of, z_of}
use Rattle.grid.specs.declared.Grid.{Grid}
use Rattle.grid.specs.declared.Lattice.{Lattice}
use Rattle.grid.specs.declared.BoxRange.{BoxRange}
use Rattle.grid.specs.declared.CellRange.{CellRange}
use Rattle.grid.specs.Grid.{cell_count}
use Rattle.overlap.specs.Rule.{least3, greatest3}
use Rattle.overlap.specs.Cells.{overlaps_cell}
use Rattle.ranges.specs.Range.{PicksBox}
use Rattle.forms.specs.declared.bounded.Forms.{Forms}
use Rattle.forms.specs.Triangle.{FormsFor}
use Rattle.column_rule.specs.Turn.{turn_point, turn_triangle}
use Rattle.columns.specs.Draw.{Draws, one_column, in_run, rectangle}
use Rattle.columns.specs.Column.{cell_passes}
use Rattle.placed.specs.declared.Placed.{Placed}
use Rattle.placed.specs.Numbering.{strides_of, turn_strides}
use Rattle.placed.specs.Box.{stays, row_axis}
use Rattle.placed.specs.declared.Along.TheVariants.{X, Y, Z}
use Rattle.std.proofs.Common.{Some}
use Rattle.placed.specs.Placed.{placed_in, turn_placed}
use Rattle.placed.proofs.Rows.{along-x, along-y, along-z}
use Rattle.placed.proofs.Measured.{measured-within}
use Rattle.triangles.specs.Add.{AddsTriangle, Fillable, FillableBox}
use Rattle.triangles.specs.View.{View, PlacedReady, PlacedAdds}
use Rattle.triangles.proofs.Views.{turn-view, turn-numbers, cells-turned}
use Rattle.triangles.proofs.Adding.{view-z, adds-columns, adds-row}

-- ---- columns of a placed triangle
pub placed-columns : (p : Placed) (s d : ℤ) (forms : Forms) {old new : List ℕ} → pos 0 ≤ℤ d → FormsFor p.t s d forms
    → Draws p.s (rectangle p.b.x p.b.y) (cell_passes forms p.b.z) old new → PlacedAdds p s d old new
placed-columns p s d forms thick made draws t o cells wanted v e = adds-columns v thick forms (subst (λ q. FormsFor q s d forms) (sym e) made) draws

-- ---- the axes taken in turn
pub ready_turned : {p : Placed} {s d : ℤ} {bytes : ℕ} → PlacedReady p s d bytes → PlacedReady (turn_placed p) s d bytes
ready_turned {p} {s} {d} {bytes} r =
    let w = r.within in
    record {
      within = record {
        v0 = record { x = w.v0.y; y = w.v0.z; z = w.v0.x };
        v1 = record { x = w.v1.y; y = w.v1.z; z = w.v1.x };
        v2 = record { x = w.v2.y; y = w.v2.z; z = w.v2.x };
      };
      normal-is = ap turn_point r.normal-is;
      step_in = r.step_in;
      forward = r.forward;
      extent-in = r.extent-in;
      thick = r.thick;
      numbers = turn-numbers r.numbers;
      room = subst (λ n. n ≤ 8 * bytes) (sym (cells-turned p.s.nu p.s.nv p.s.nw)) r.room;
      x = r.y;
      y = r.z;
      z = r.x;
    }

pub adds-turned : (p : Placed) {s d : ℤ} {old new : List ℕ} → PlacedAdds (turn_placed p) s d old new → PlacedAdds p s d old new
adds-turned p h t o cells wanted v e = h (turn_triangle t) (turn_point o) cells wanted (turn-view v) (ap turn_triangle e)

module _ (g : Grid) (l : Lattice) {bytes : ℕ} (ready : Fillable g l bytes) where
  pub view : {t : Triangle} {b : BoxRange} → PicksBox t l g.nx g.ny g.nz b → View (strides_of g) t l b (cell_count g) (overlaps_cell g l t)
  view {t} p = view-z g ready.x.some ready.y.some ready.x.most ready.y.most ready.z.most t l p

  -- ---- placed in the lattice
  module _ {t : Triangle} {b : BoxRange} (picks : PicksBox t l g.nx g.ny g.nz b) where
    pub placed-ready : FillableBox g l bytes b → BoundedTriangle t → PlacedReady (placed_in g l b t) l.step l.extent bytes
    placed-ready r h = record {
      within = measured-within ready.boxes.first h;
      normal-is = refl;
      step_in = ready.boxes.step;
      forward = <→≤ ready.boxes.positive;
      extent-in = ready.boxes.extent;
      thick = ready.boxes.thick;
      numbers = (view picks).numbers;
      room = ready.room;
      x = r.x;
      y = r.y;
      z = r.z;
    }

    pub placed-adds : {old new : List ℕ} → PlacedAdds (placed_in g l b t) l.step l.extent old new → AddsTriangle g l t old new
    placed-adds h = h t l.first (cell_count g) (overlaps_cell g l t) (view picks) refl

  -- ---- a row
  -- on an axis, the range has one cell, and the coordinates lie within its box
  on-axis : (t : Triangle) (r : CellRange) (a : Axis) → stays l t r a ≡ true
      → (r.end ≡ r.first + 1) × ((a l.first +ℤ pos r.first *ℤ l.step) ≤ℤ least3 a t) × (greatest3 a t ≤ℤ (a l.first +ℤ pos r.first *ℤ l.step +ℤ l.extent))
  on-axis t r a e =
      let begin = a l.first +ℤ pos r.first *ℤ l.step in
      let (f, h) = (and-eq-true_iff (eqb r.end (r.first + 1) && le_z begin (least3 a t)) (le_z (greatest3 a t) (begin +ℤ l.extent))).0 e in
      let (q, k) = (and-eq-true_iff (eqb r.end (r.first + 1)) (le_z begin (least3 a t))).0 f in
      (eqb-true _ _ q, le-true _ _ k, le-true _ _ h)

  module _ {t : Triangle} {b : BoxRange} (p : PicksBox t l g.nx g.ny g.nz b) where
    abbrev in-x : Bool
    in-x = stays l t b.x x_of

    abbrev in-y : Bool
    in-y = stays l t b.y y_of

    abbrev in-z : Bool
    in-z = stays l t b.z z_of

    pub row-z : {old new : List ℕ} → Some Z ≡ row_axis l b t
        → Draws (strides_of g) (one_column b.x.first b.y.first) (in_run b.z) old new → AddsTriangle g l t old new
    row-z h =
        let (u, v) = along-z in-x in-y in-z h in
        let (eu, lu, hu) = on-axis t b.x x_of u in
        let (ev, lv, hv) = on-axis t b.y y_of v in
        adds-row (view p) ready.boxes.thick eu ev (record { from = lu; to = hu }) (record { from = lv; to = hv })

    pub row-x : {old new : List ℕ} → Some X ≡ row_axis l b t
        → Draws (turn_strides (strides_of g)) (one_column b.y.first b.z.first) (in_run b.x) old new → AddsTriangle g l t old new
    row-x h =
        let (u, v) = along-x in-x in-y in-z h in
        let (eu, lu, hu) = on-axis t b.y y_of u in
        let (ev, lv, hv) = on-axis t b.z z_of v in
        adds-row (turn-view (view p)) ready.boxes.thick eu ev (record { from = lu; to = hu }) (record { from = lv; to = hv })

    pub row-y : {old new : List ℕ} → Some Y ≡ row_axis l b t
        → Draws (turn_strides (turn_strides (strides_of g))) (one_column b.z.first b.x.first) (in_run b.y) old new → AddsTriangle g l t old new
    row-y h =
        let (u, v) = along-y in-x in-y in-z h in
        let (eu, lu, hu) = on-axis t b.z z_of u in
        let (ev, lv, hv) = on-axis t b.x x_of v in
        adds-row (turn-view (turn-view (view p))) ready.boxes.thick eu ev (record { from = lu; to = hu }) (record { from = lv; to = hv })
