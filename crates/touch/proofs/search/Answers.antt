-- `touch::search`: a cell that a row's search skips is not filled, one that is not touched is not looked for, and so the first that is touched is the lowest.
use borrow.Author.Count.{below_more}
use mathlib.Core.Bool.{false}
use mathlib.Core.List.{List}
use mathlib.Core.Path.{◌≡◌, sym, ap, ◌∙◌, subst}
use Prim.Native.Nat.{ℕ, ◌+◌}
use Rattle.std.specs.Prelude.{Some}
use native.Mathlib.Decide.{dec_lt}
use native.Mathlib.Omega.{arith}
use Rattle.integers.proofs.Truth.{apart}
use Rattle.grid.specs.Grid.{cell_count}
use Rattle.grid.specs.Cells.{cell_number}
use Rattle.grid.specs.declared.CellRange.{CellRange}
use Rattle.map.specs.Map.{is_filled}
use Rattle.legs.specs.declared.Slabs.{Slabs}
use Rattle.touch.specs.Inner.{wanted, Lowest}
use Rattle.touch.proofs.Scan.{No, row_in, no_row, either, found_at}
use Rattle.touch.proofs.search.Goals as goal

-- the number of a cell of the row that begins with the cell numbered `row`
cell-is : (nx ny row i j k : ℕ) → row ≡ cell_number nx ny 0 j k → row + i ≡ cell_number nx ny i j k
cell-is nx ny row i j k is = omega (arith, is)

-- a cell that is not filled is not looked for
not-filled : (map : List ℕ) (nx ny : ℕ) (slabs : Slabs) (x y z : CellRange) (row i j k : ℕ) → row ≡ cell_number nx ny 0 j k → is_filled map (row + i) ≡ false
    → No map nx ny slabs x y z i j k
not-filled map nx ny slabs x y z row i j k is clear _ _ _ filled _ _ = apart (ap (is_filled map) (cell-is nx ny row i j k is) ∙ filled) clear

pub loop-i-init : goal.loop-i-init
loop-i-init c =
    let a = c.args in
    let b = a.block in
    let next = c.next_cell-i.ensures in (
      c.loop-j.invariant.0,
      next.from,
      next.stopped,
      λ i l h.
          not-filled a.map.now a.g.nx a.g.ny a.slabs.now b.x b.y b.z c.cell_number-row.result i c.loop-j.j c.scan.k c.cell_number-row.ensures
          (next.skipped i l h.0) h,
    )

pub loop-i-preserved : goal.loop-i-preserved
loop-i-preserved c =
    let a = c.args in
    let b = a.block in
    let v = c.loop-i.invariant in
    let next = c.next_cell-i-in-loop-i.ensures in (
      v.0,
      omega (arith, next.from, v.1),
      next.stopped,
      λ i u hi hj hk filled row touched.
          either (dec_lt i c.loop-i.i) (λ l. v.3 i l hi hj hk filled row touched)
          (λ l.
          either (dec_lt c.loop-i.i i)
          (λ w.
          not-filled a.map.now a.g.nx a.g.ny a.slabs.now b.x b.y b.z c.cell_number-row.result i c.loop-j.j c.scan.k c.cell_number-row.ensures
          (next.skipped i u (omega arith)) hi hj hk filled row touched)
          (λ w.
          let same : i ≡ c.loop-i.i = omega arith in
          apart (rw same at touched) (sym c.touch.ensures ∙ c.if-touch.false))),
    )

pub loop-j-preserved : goal.loop-j-preserved
loop-j-preserved c = (
  c.loop-i.invariant.0,
  below_more _ _ c.loop-j.invariant.1 (λ i h. c.loop-i.invariant.3 i (omega (arith, h.1, c.loop-i-test.false)) h),
)

pub scan-preserved : goal.scan-preserved
scan-preserved c =
    let a = c.args in
    let b = a.block in
    let n = c.rows-rows.ensures in (
      c.loop-j.invariant.0,
      below_more _ _ c.scan.invariant.1
          (λ i j hi hj.
          either (dec_lt j c.loop-j.j) (λ v. c.loop-j.invariant.1 j v i hi hj)
          (λ v. no_row a.map.now a.g.nx a.g.ny a.slabs.now b.x b.y b.z n j (λ h. omega (arith, h.1, c.loop-j-test.false)) i hi hj)),
      n.from,
      omega (arith, n.ordered, n.to),
    )

pub returns-then-touch : goal.returns-then-touch
returns-then-touch c =
    let a = c.args in
    let i = c.loop-i.i in
    let v = c.loop-i.invariant in
    let at = cell-is a.g.nx a.g.ny c.cell_number-row.result i c.loop-j.j c.scan.k c.cell_number-row.ensures in
    let j = row_in c.rows-rows.ensures c.loop-j.j (omega arith, c.loop-j-test.true) in
    subst (λ (n : ℕ). Lowest (wanted (is_filled a.map.now) a.g a.slabs.now a.block) (cell_count a.g) (Some n)) (sym at)
    (found_at a.map.now a.g a.slabs.now a.block c.requires.2 i c.loop-j.j c.scan.k
    (v.1, c.loop-i-test.true) j.0 (omega arith, c.scan-test.true)
    (ap (is_filled a.map.now) (sym at) ∙ v.2 c.loop-i-test.true)
    j.1
    (sym c.touch.ensures ∙ c.if-touch.true)
    c.scan.invariant.1 c.loop-j.invariant.1 v.3)
