-- `columns::Columns::scan_row`: the columns passed are drawn, and x0, x1 and x2 are the edges' values of the next.
use mathlib.Core.Bool.{Bool, and-eq-true_iff}
use mathlib.Core.List.{[], ◌∷◌}
use mathlib.Core.Path.{◌≡◌, sym, ◌∙◌, subst, subst₂}
use Prim.Native.Nat.{ℕ, ◌+◌, ◌^◌, ◌≤◌, ◌<◌}
use native.Mathlib.Omega.{arith}
use lib.Dec.{eqb}
use lib.IntN.{ℤ, pos, ◌+ℤ◌}
use mir.Syntax.{w64}
use mir.Val.{to_z, of_z, SFits}
use mir.Facts.{to_z_pos}
use Rattle.integers.specs.Within.{Within, Withins}
use Rattle.integers.proofs.Expr.{raw, var, ◌⊕◌}
use Rattle.integers.proofs.Machine.{asks, run, back}
use Rattle.geometry.specs.Bounds.{index_max}
use Rattle.grid.specs.Range.{in_range}
use Rattle.forms.specs.declared.bounded.Forms.{Forms}
use Rattle.forms.specs.Form.{value_max, edge_slope_max}
use Rattle.forms.specs.Forms.{edge_at}
use Rattle.column_rule.specs.Column.{uv_of, square_passes}
use Rattle.grid.specs.declared.CellRange.{CellRange}
use Rattle.columns.specs.Draw.{one_column, row_of, range}
use Rattle.columns.specs.declared.ready.Columns.{Columns}
use Rattle.columns.specs.Column.{value_at, column_passes, run_cells, cell_passes, ColumnsReady, RowsIn, DrawsColumns}
use Rattle.columns.proofs.Drawing.{draws-same, draws-nothing, drawn-on}
use Rattle.columns.proofs.Cells.{next-value, value-within, ruled_out, let-in, no-range, no-columns, more-columns, row_more}
use Rattle.columns.proofs.ready.Columns.scan_row.Goals as goal
use Rattle.columns.proofs.ready.Columns.scan_row.Goals.{In-loop-a, Joined-square_passes, then-square_passes, else-square_passes}

-- ---- edge m, its value x at column (a, j), and what takes it to the next
module _ (f : Forms) (m a j : ℕ) (most : m < 3) (a-most : a ≤ 64) (j-most : j ≤ 64) {x : ℤ} (is : x ≡ value_at f m a j) where
  abbrev slope : ℤ
  slope = (edge_at f m).uv.a

  ins : Withins (value_max ∷ edge_slope_max ∷ []) (x ∷ slope ∷ [])
  ins = let form = (f.bounded.edge m most).uv in (rw is (value-within f m a j form a-most j-most), (form.a, tt))

  fits : SFits w64 (x +ℤ to_z w64 (of_z w64 slope))
  fits = (asks (x ∷ slope ∷ []) (raw 0 ⊕ var 1) (value_max ∷ edge_slope_max ∷ []) tt ins).2

  stepped : to_z w64 (of_z w64 (x +ℤ to_z w64 (of_z w64 slope))) ≡ value_at f m (a + 1) j
  stepped = run (x ∷ slope ∷ []) (raw 0 ⊕ var 1) (value_max ∷ edge_slope_max ∷ []) tt ins ∙ (λ i. is i +ℤ slope) ∙ next-value f m a (pos j)

-- ---- the numbers of the first column of a row j with the columns u, as the machine has them
module _ {c : Columns} {n hint j : ℕ} {u : CellRange} (p : ColumnsReady c n hint × RowsIn u c.g.nu × (j < c.g.nv)) where
  first-small : u.first ≤ 64
  first-small = omega (arith, p.1.ordered, p.1.end, c.numbers.nu-most)

  j-small : j ≤ 64
  j-small = omega (arith, p.2, c.numbers.nv-most)

  u-is : to_z w64 u.first ≡ pos u.first
  u-is = let h : u.first < 2 ^ 63 = omega (arith, first-small) in to_z_pos w64 h

  v-is : to_z w64 j ≡ pos j
  v-is = let h : j < 2 ^ 63 = omega (arith, j-small) in to_z_pos w64 h

  u-in : Within index_max (to_z w64 u.first)
  u-in = rw u-is (record { within = first-small })

  v-in : Within index_max (to_z w64 j)
  v-in = rw v-is (record { within = j-small })

  below : {a : ℕ} → a < u.end → a ≤ 64
  below h = omega (arith, p.1.end, c.numbers.nu-most)

  value-is : (m : ℕ) {x : ℤ} → x ≡ uv_of (edge_at c.forms.now m) (to_z w64 u.first) (to_z w64 j) → x ≡ value_at c.forms.now m u.first j
  value-is m e = e ∙ (λ d. uv_of (edge_at c.forms.now m) (u-is d) (v-is d))

pub at-x2-requires : goal.at-x2-requires
at-x2-requires c = ((c.args.self.now.forms.now.bounded.edge 2 (omega arith)).uv, u-in c.requires, v-in c.requires)

pub loop-a-init : goal.loop-a-init
loop-a-init c =
    let a = c.args in
    let r = c.requires in
    let f = a.u.first in (
      no-columns a.self.now (row_of (range f f) a.j) a.map.now a.hint (λ x y e. no-range f x ((and-eq-true_iff (in_range (range f f) x) (eqb y a.j)).0 e).0) r.0.low r.0.high,
      value-is r 0 (back w64 c.at-x0.type_inv ∙ c.at-x0.ensures.0),
      value-is r 1 (back w64 c.at-x1.type_inv ∙ c.at-x1.ensures.0),
      value-is r 2 (back w64 c.at-x2.type_inv ∙ c.at-x2.ensures.0),
    )

-- ---- one column
square-is : (c : Joined-square_passes) {t : Bool} → c.square_passes.result ≡ t → column_passes c.args.self.now.forms.now c.loop-a.a c.args.j ≡ t
square-is c e = let v = c.loop-a.invariant in (λ i. square_passes (sym v.1 i) (sym v.2 i) (sym v.3 i)) ∙ sym c.square_passes.ensures ∙ e

here : (c : Joined-square_passes) → DrawsColumns c.args.self.now (one_column c.loop-a.a c.args.j) c.loop-a.map c.if-square_passes.map c.if-square_passes.near
here c =
    let v = c.loop-a.invariant in
    let a = c.args in
    let s = a.self.now in
    let f = s.forms.now in
    let i = c.loop-a.a in
    let D = DrawsColumns s (one_column i a.j) c.loop-a.map in
    elim c.if-square_passes.branch [
      | then-square_passes w ↦
          let r = w.column-near.ensures in
          subst₂ D (sym w.map-is) (sym w.near-is)
          (record {
            draws = draws-same s.g
                (drawn-on s.g (one_column i a.j) (run_cells f s.w (pos i) (pos a.j) (to_z w64 c.loop-a.x0-bits) (to_z w64 c.loop-a.x1-bits) (to_z w64 c.loop-a.x2-bits)) (cell_passes f s.w)
                (λ x y k e. (λ d. run_cells f s.w (pos i) (pos a.j) (v.1 d) (v.2 d) (v.3 d) x y k) ∙ let-in f s.w i a.j (square-is c w.if-square_passes.true) x y k e))
                r.0;
            low = r.1;
            high = r.2;
          })
      | else-square_passes w ↦
          subst₂ D (sym w.map-is) (sym w.near-is)
          (record {
            draws = draws-nothing s.g (one_column i a.j) (cell_passes f s.w) c.loop-a.map (ruled_out f s.w i a.j (square-is c w.if-square_passes.false));
            low = v.0.low;
            high = v.0.high;
          })
    ]

-- ---- the next column
pub overflow_add-x0 : goal.overflow_add-x0
overflow_add-x0 c =
    let a = c.args in
    fits a.self.now.forms.now 0 c.loop-a.a a.j (omega arith) (below c.requires c.loop-a-test.true) (j-small c.requires) c.loop-a.invariant.1

pub overflow_add-x1 : goal.overflow_add-x1
overflow_add-x1 c =
    let a = c.args in
    fits a.self.now.forms.now 1 c.loop-a.a a.j (omega arith) (below c.requires c.loop-a-test.true) (j-small c.requires) c.loop-a.invariant.2

pub overflow_add-x2 : goal.overflow_add-x2
overflow_add-x2 c =
    let a = c.args in
    fits a.self.now.forms.now 2 c.loop-a.a a.j (omega arith) (below c.requires c.loop-a-test.true) (j-small c.requires) c.loop-a.invariant.3

pub loop-a-preserved : goal.loop-a-preserved
loop-a-preserved c =
    let a = c.args in
    let f = a.self.now.forms.now in
    let k = c.loop-a.a in
    let i = c.loop-a.invariant in
    let l = below c.requires c.loop-a-test.true in
    let h = j-small c.requires in (
      more-columns a.self.now (row_more (omega arith) a.j) i.0 (here c.before.before.before),
      stepped f 0 k a.j (omega arith) l h i.1,
      stepped f 1 k a.j (omega arith) l h i.2,
      stepped f 2 k a.j (omega arith) l h i.3,
    )

pub returns : goal.returns
returns c =
    let a = c.args in
    let all : c.loop-a.a ≡ a.u.end = omega arith in
    subst (λ e. DrawsColumns a.self.now (row_of (range a.u.first e) a.j) a.map.now c.loop-a.map c.loop-a.near) all c.loop-a.invariant.0
