-- `columns::Columns::column`: the plane and the edges narrow the run one after the other.
use mathlib.Core.Path.{◌≡◌, subst}
use Prim.Native.Nat.{ℕ, ◌^◌, ◌<◌, ◌≤◌}
use native.Mathlib.Omega.{arith}
use lib.IntN.{ℤ, pos}
use mir.Syntax.{w64}
use mir.Val.{to_z}
use mir.Facts.{to_z-of_z, to_z_pos}
use Rattle.grid.specs.declared.CellRange.{CellRange}
use Rattle.forms.specs.Forms.{edge_at, plane_at}
use Rattle.runs.specs.Run.{Narrows}
use Rattle.runs.proofs.Narrow.{by_both}
use Rattle.column_rule.specs.Column.{plane_passes, edge_passes, cell_along}
use Rattle.columns.specs.Draw.{one_column, in_run}
use Rattle.columns.specs.declared.ready.Columns.{Columns}
use Rattle.columns.specs.Column.{run_cells, RunIn}
use Rattle.columns.proofs.Drawing.{draws-same, drawn-on}
use Rattle.columns.proofs.ready.Columns.column.Goals as goal

-- the numbers of a column of the grid, as the machine has them
module _ (c : Columns) (i j : ℕ) (hi : i < c.g.nu) (hj : j < c.g.nv) where
  u-is : to_z w64 i ≡ pos i
  u-is = let h : i < 2 ^ 63 = omega (arith, c.numbers.nu-most) in to_z_pos w64 h

  v-is : to_z w64 j ≡ pos j
  v-is = let h : j < 2 ^ 63 = omega (arith, c.numbers.nv-most) in to_z_pos w64 h

  in-run : {r : CellRange} → r.first ≤ r.end → r.end ≤ c.w.end → RunIn r (to_z w64 i) (to_z w64 j)
  in-run o h = record {
    ordered = o;
    most = omega (arith, c.end, c.numbers.nw-most);
    u-in = rw u-is (record { within = omega (arith, c.numbers.nu-most) });
    v-in = rw v-is (record { within = omega (arith, c.numbers.nv-most) });
  }

  by-edge : {run r : CellRange} (e : ℕ) (x : ℤ) {y : ℤ} → y ≡ x → Narrows run (edge_passes (edge_at c.forms.now e) (to_z w64 i) (to_z w64 j) y) r
      → Narrows run (edge_passes (edge_at c.forms.now e) (pos i) (pos j) x) r
  by-edge {run} {r} e x h n = subst (λ p. Narrows run p r) (λ k. edge_passes (edge_at c.forms.now e) (u-is k) (v-is k) (h k)) n

  by-plane : {r : CellRange} → Narrows c.w (plane_passes (plane_at c.forms.now) (to_z w64 i) (to_z w64 j)) r
      → Narrows c.w (plane_passes (plane_at c.forms.now) (pos i) (pos j)) r
  by-plane {r} n = subst (λ p. Narrows c.w p r) (λ k. plane_passes (plane_at c.forms.now) (u-is k) (v-is k)) n

pub edge_run-r1-requires : goal.edge_run-r1-requires
edge_run-r1-requires c =
    let (_, hi, hj) = c.requires in
    let a = c.args in
    let r = c.edge_run-r0.ensures in
    (a.self.now.forms.now.bounded.edge 1 (omega arith), in-run a.self.now a.i a.j hi hj r.ordered (omega (arith, r.to, c.plane_run-plane.ensures.to)))

pub edge_run-r2-requires : goal.edge_run-r2-requires
edge_run-r2-requires c =
    let (_, hi, hj) = c.requires in
    let a = c.args in
    let r = c.edge_run-r1.ensures in
    (a.self.now.forms.now.bounded.edge 2 (omega arith), in-run a.self.now a.i a.j hi hj r.ordered (omega (arith, r.to, c.edge_run-r0.ensures.to, c.plane_run-plane.ensures.to)))

pub returns : goal.returns
returns c =
    let (_, hi, hj) = c.requires in
    let a = c.args in
    let s = a.self.now in
    let l = s.forms.now in
    let f = c.ranges in
    let r = by-plane s a.i a.j hi hj c.plane_run-plane.ensures in
    -- the run, which the plane and the edges leave
    let left : Narrows s.w (cell_along (plane_at l) (edge_at l 0) (edge_at l 1) (edge_at l 2) (pos a.i) (pos a.j) a.x0 a.x1 a.x2) c.edge_run-r2.result =
    by_both (by_both (by_both r (by-edge s a.i a.j hi hj 0 a.x0 (to_z-of_z f.x0) c.edge_run-r0.ensures))
    (by-edge s a.i a.j hi hj 1 a.x1 (to_z-of_z f.x1) c.edge_run-r1.ensures))
    (by-edge s a.i a.j hi hj 2 a.x2 (to_z-of_z f.x2) c.edge_run-r2.ensures) in (
      draws-same s.g (drawn-on s.g (one_column a.i a.j) (in_run c.edge_run-r2.result) (run_cells l s.w (pos a.i) (pos a.j) a.x0 a.x1 a.x2) (λ x y k e. left.exact k)) c.fill_run.ensures,
      r.from,
      omega (arith, r.ordered, r.to),
    )
