-- What the columns of a triangle's box of cells add to a map, and what a row of cells does.
--     view-z          a grid's cells as they are numbered
--     adds-columns    the cells that pass column by column are those that the triangle overlaps
--     adds-row        where the triangle stays within one cell on two axes, it overlaps every cell of its box
--     adds-nothing    a box with no cell
-- Assumes nothing.
use mathlib.Core.Bool.{Bool, true, false, ◌&&◌, ◌||◌, and-eq-true_iff, or-false}
use mathlib.Core.List.{List, [], ◌∷◌}
use mathlib.Core.Path.{◌≡◌, refl, sym, ap, ◌∙◌, subst}
use Prim.Native.Nat.{ℕ, ◌+◌, ◌*◌, ◌<◌, ◌≤◌}
use native.Mathlib.Decide.{dec_lt}
use native.Mathlib.Omega.{arith}
use borrow.Author.Tests.{lt-ltb, le-ltb, eqb-true, eq-eqb}
use lib.Dec.{T, eqb, ltb, lit<}
use lib.IntN.{ℤ, pos}
use lib.Signed.{◌≤ℤ◌, ◌<ℤ◌}
use Rattle.integers.specs.Within.{Withins}
use Rattle.integers.proofs.Omega.{zarith, le-true}
use Rattle.integers.proofs.Bounds.{within-high}
use Rattle.integers.proofs.Expr.{var, ◌⊕◌, ◌⊗◌}
use Rattle.integers.proofs.Machine.{bound}
use Rattle.geometry.specs.Bounds.{index_max}
use Rattle.geometry.specs.declared.Triangle.{Triangle}
use Rattle.geometry.specs.Geometry.{cube, x_of, y_of, z_of}
use Rattle.geometry.specs.Inner.{measured_from}
use Rattle.grid.specs.declared.Lattice.{Lattice}
use Rattle.grid.specs.declared.Grid.{Grid}
use Rattle.grid.specs.Grid.{cell_count, box_corner}
use Rattle.overlap.specs.Rule.{overlaps_box, least_holds, greatest_holds}
use Rattle.grid.specs.declared.BoxRange.{BoxRange}
use Rattle.grid.specs.declared.CellRange.{CellRange}
use Rattle.grid.specs.Range.{in_range}
use Rattle.ranges.specs.Range.{PicksBox}
use Rattle.forms.specs.declared.Edge.{Edge}
use Rattle.forms.specs.declared.bounded.Forms.{Forms}
use Rattle.forms.specs.Forms.{edge_at, plane_at}
use Rattle.forms.specs.Form.{inside_max, edge_slope_max, edge_max, BoundedEdge}
use Rattle.forms.specs.Triangle.{FormsFor}
use Rattle.integers.proofs.Truth.{same_truth}
use Rattle.runs.proofs.Narrow.{in-range}
use Rattle.reach.proofs.Row.{Stays, row-holds}
use Rattle.column_rule.specs.Column.{forms_hold, uv_of, cell_along, column_test}
use Rattle.column_rule.proofs.Law.{rule-parts, column-law}
use Rattle.columns.specs.declared.Strides.{Strides}
use Rattle.columns.specs.Draw.{u_of, v_of, w_of, cells_of, drawn, Draws, one_column, in_run, rectangle}
use Rattle.columns.specs.Column.{value_at, column_passes, cell_passes}
use Rattle.columns.proofs.Drawing.{strides}
use Rattle.columns.proofs.Lattices.{along-z, x-is, z-is}
use Rattle.grid.specs.Cells.{y_of_cell}
use Rattle.map.specs.Map.{is_filled}
use Rattle.overlap.specs.Cells.{overlaps_cell}
use Rattle.triangles.specs.Add.{Adds}
use Rattle.triangles.specs.View.{View}
use Rattle.triangles.proofs.Views.{places}

-- ---- a grid's cells as they are numbered
module _ (g : Grid) (px : 0 < g.nx) (py : 0 < g.ny) (mx : g.nx ≤ 64) (my : g.ny ≤ 64) (mz : g.nz ≤ 64) (t : Triangle) (l : Lattice) {r : BoxRange}
    (picks : PicksBox t l g.nx g.ny g.nz r) where
  pub view-z : View (strides 1 g.nx g.nx g.ny (g.nx * g.ny) g.nz) t l r (cell_count g) (overlaps_cell g l t)
  view-z =
      let nx = g.nx in
      let ny = g.ny in
      let nz = g.nz in
      record {
        numbers = along-z nx ny nz px py mx my mz;
        picks = picks;
        cells_are = refl;
        rule = λ n h q. overlaps_box t (box_corner l (x-is nx ny nz px py mx my mz n q) (y_of_cell nx ny n) (z-is nx ny nz px py mx my mz n h q)) (cube l.extent);
      }

-- ---- the cells that are drawn are those that are wanted
module _ {g : Strides} {t : Triangle} {l : Lattice} {r : BoxRange} {cells : ℕ} {wanted : ℕ → Bool} (v : View g t l r cells wanted) where
  abbrev rule : (i j k : ℕ) → Bool
  rule i j k = overlaps_box t (box_corner l i j k) (cube l.extent)

  pub adds : (cols : ℕ → ℕ → Bool) (test : ℕ → ℕ → ℕ → Bool) {old new : List ℕ} → ((i j k : ℕ) → i < g.nu → j < g.nv → k < g.nw → (cols i j && test i j k) ≡ rule i j k)
      → Draws g cols test old new → Adds cells wanted old new
  unfolding drawn
  adds cols test {old} e d = record { len = d.len; each = λ n. d.cells n ∙ ap (λ (b : Bool). is_filled old n || b) (go n (dec_lt n cells)) }
    where
      go : (n : ℕ) → Dec (n < cells) → (ltb n (cells_of g) && (cols (u_of g n) (v_of g n) && test (u_of g n) (v_of g n) (w_of g n))) ≡ (ltb n cells && wanted n)
      go n (yes h) =
          let c = v.cells_are in
          let in-grid = places g n (omega arith) in
          rw (lt-ltb n cells h, lt-ltb n (cells_of g) (omega arith)) (e (u_of g n) (v_of g n) (w_of g n) in-grid.0 in-grid.1 in-grid.2 ∙ v.rule n h)
      go n (no h) = let c = v.cells_are in rw (le-ltb n cells (omega arith), le-ltb n (cells_of g) (omega arith))

  -- the boxes, as ranges
  by-ranges : (i j k : ℕ) → i < g.nu → j < g.nv → k < g.nw
      → rule i j k ≡ (in_range r.x i && in_range r.y j && in_range r.z k && forms_hold t (box_corner l i j k) (cube l.extent))
  by-ranges i j k hi hj hk =
      let p = v.picks in
      rule-parts t (box_corner l i j k) (cube l.extent)
      ∙ (λ q. sym (p.x.exact i hi) q && sym (p.y.exact j hj) q && sym (p.z.exact k hk) q && forms_hold t (box_corner l i j k) (cube l.extent))

  -- ---- column by column
  module _ (positive : pos 0 ≤ℤ l.extent) (forms : Forms) (made : FormsFor (measured_from l.first t) l.step l.extent forms) where
    below : {x : ℤ} {A B : ℕ} → x ≤ℤ pos A → A < B → x <ℤ pos B
    below h k = omega zarith

    -- a value of an edge's form is less than the value that stands for never
    small : {e f : Edge} → e ≡ f → BoundedEdge e → (i j : ℕ) → i ≤ 64 → j ≤ 64 → uv_of f (pos i) (pos j) <ℤ pos inside_max
    small {e} is h i j hi hj =
        let u = e.uv in
        let ρ = u.a ∷ u.b ∷ u.c ∷ pos i ∷ pos j ∷ [] in
        let bs = edge_slope_max ∷ edge_slope_max ∷ edge_max ∷ index_max ∷ index_max ∷ [] in
        let w : Withins bs ρ = (h.uv.a, (h.uv.b, (h.uv.c, (record { within = hi }, (record { within = hj }, tt))))) in
        subst (λ f. uv_of f (pos i) (pos j) <ℤ pos inside_max) is (below (within-high (bound ρ (var 0 ⊗ var 3 ⊕ var 1 ⊗ var 4 ⊕ var 2) bs w)) (lit< tt))

    rearrange : (u w c a : Bool) → (u && (c && (w && a))) ≡ (u && w && (c && a))
    rearrange true true c a = refl
    rearrange true false true a = refl
    rearrange true false false a = refl
    rearrange false w c a = refl

    passes-is : (i j k : ℕ) → i < g.nu → j < g.nv → k < g.nw → (rectangle r.x r.y i j && cell_passes forms r.z i j k) ≡ rule i j k
    unfolding cell_passes column_test
    passes-is i j k hi hj hk =
        let n = v.numbers in
        let edge = forms.bounded.edge in
        let mi : i ≤ 64 = omega (arith, n.nu-most) in
        let mj : j ≤ 64 = omega (arith, n.nv-most) in
        rearrange (rectangle r.x r.y i j) (in_range r.z k) (column_passes forms i j)
        (cell_along (plane_at forms) (edge_at forms 0) (edge_at forms 1) (edge_at forms 2) (pos i) (pos j) (value_at forms 0 i j) (value_at forms 1 i j) (value_at forms 2 i j) k)
        ∙ ap (λ (c : Bool). in_range r.x i && in_range r.y j && in_range r.z k && c)
        ((λ q. column_test (made.plane q) (made.e0 q) (made.e1 q) (made.e2 q) (pos i) (pos j) k)
        ∙ sym (column-law t l positive i j k (small made.e0 (edge 0 (omega arith)) i j mi mj) (small made.e1 (edge 1 (omega arith)) i j mi mj) (small made.e2 (edge 2 (omega arith)) i j mi mj)))
        ∙ sym (by-ranges i j k hi hj hk)

    pub adds-columns : {old new : List ℕ} → Draws g (rectangle r.x r.y) (cell_passes forms r.z) old new → Adds cells wanted old new
    adds-columns = adds (rectangle r.x r.y) (cell_passes forms r.z) passes-is

  -- ---- a row of cells
  module _ (positive : pos 0 ≤ℤ l.extent) (one-x : r.x.end ≡ r.x.first + 1) (one-y : r.y.end ≡ r.y.first + 1)
      (stays-x : Stays t (box_corner l r.x.first r.y.first 0) (cube l.extent) x_of)
      (stays-y : Stays t (box_corner l r.x.first r.y.first 0) (cube l.extent) y_of) where
    only : {s : CellRange} {i : ℕ} → s.end ≡ s.first + 1 → s.first ≤ i → i < s.end → i ≡ s.first
    only e a b = omega arith

    reached : (k : ℕ) → k < g.nw → in_range r.z k ≡ true → rule r.x.first r.y.first k ≡ true
    reached k hk h =
        let p = box_corner l r.x.first r.y.first k in
        let (low, high) = (and-eq-true_iff (least_holds t p (cube l.extent) z_of) (greatest_holds t p z_of)).0 (sym (v.picks.z.exact k hk) ∙ h) in
        truth (rule r.x.first r.y.first k) (row-holds t p (cube l.extent) (record { x = positive; y = positive; z = positive }) (record { from = stays-x.from; to = stays-x.to }) (record { from = stays-y.from; to = stays-y.to })
        (le-true _ _ low) (le-true _ _ high))
      where
        truth : (b : Bool) → T b → b ≡ true
        truth true h = refl
        truth false h = elim h [ ]

    row_is : (i j k : ℕ) → i < g.nu → j < g.nv → k < g.nw → (one_column r.x.first r.y.first i j && in_run r.z i j k) ≡ rule i j k
    row_is i j k hi hj hk =
        same_truth (one_column r.x.first r.y.first i j && in_run r.z i j k) (rule i j k)
        (λ e.
        let (c, z) = (and-eq-true_iff (one_column r.x.first r.y.first i j) (in_range r.z k)).0 e in
        let (x, y) = (and-eq-true_iff (eqb i r.x.first) (eqb j r.y.first)).0 c in
        (λ q. rule (eqb-true i r.x.first x q) (eqb-true j r.y.first y q) k) ∙ reached k hk z)
        (λ e.
        let (b, _) = (and-eq-true_iff (in_range r.x i && in_range r.y j && in_range r.z k) _).0 (sym (by-ranges i j k hi hj hk) ∙ e) in
        let (c, z) = (and-eq-true_iff (in_range r.x i && in_range r.y j) (in_range r.z k)).0 b in
        let (x, y) = (and-eq-true_iff (in_range r.x i) (in_range r.y j)).0 c in
        let (xl, xh) = in-range r.x i x in
        let (yl, yh) = in-range r.y j y in
        (and-eq-true_iff (one_column r.x.first r.y.first i j) (in_range r.z k)).1
        ((and-eq-true_iff (eqb i r.x.first) (eqb j r.y.first)).1 (eq-eqb i r.x.first (only one-x xl xh), eq-eqb j r.y.first (only one-y yl yh)), z))

    pub adds-row : {old new : List ℕ} → Draws g (one_column r.x.first r.y.first) (in_run r.z) old new → Adds cells wanted old new
    adds-row = adds (one_column r.x.first r.y.first) (in_run r.z) row_is

  -- ---- nothing
  pub adds-nothing : ((i j k : ℕ) → (in_range r.x i && in_range r.y j && in_range r.z k) ≡ false) → (map : List ℕ) → Adds cells wanted map map
  adds-nothing none map = record {
    len = refl;
    each = λ n. sym (ap (λ (b : Bool). is_filled map n || b) (go n (dec_lt n cells)) ∙ or-false (is_filled map n));
  }
    where
      go : (n : ℕ) → Dec (n < cells) → (ltb n cells && wanted n) ≡ false
      go n (yes h) =
          let c = v.cells_are in
          let in-grid = places g n (omega arith) in
          rw (lt-ltb n cells h)
          (sym (v.rule n h) ∙ by-ranges (u_of g n) (v_of g n) (w_of g n) in-grid.0 in-grid.1 in-grid.2
          ∙ ap (λ (b : Bool). b && forms_hold t (box_corner l (u_of g n) (v_of g n) (w_of g n)) (cube l.extent)) (none (u_of g n) (v_of g n) (w_of g n)))
      go n (no h) = rw (le-ltb n cells (omega arith))
