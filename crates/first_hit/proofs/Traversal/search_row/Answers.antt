-- `first_hit::Traversal::search_row`: cells that are skipped are not filled, cells that are not touched are not looked for, and each of the others is compared with the one kept.
use mathlib.Core.Bool.{true, and-eq-true_iff}
use mathlib.Core.Path.{◌≡◌, sym, ap, ◌∙◌, subst}
use Prim.Native.Nat.{ℕ, ◌+◌, ◌-◌, ◌*◌, ◌<◌, ◌≤◌}
use native.Mathlib.Omega.{arith}
use lib.ListN.{length}
use Rattle.integers.proofs.Truth.{apart}
use Rattle.grid.specs.declared.CellRange.{CellRange}
use Rattle.grid.specs.Cells.{cell_number}
use Rattle.grid.specs.Grid.{cell_count}
use Rattle.grid.specs.Range.{in_range}
use Rattle.grid.proofs.Numbers.{number_lt}
use Rattle.runs.specs.Run.{Narrows}
use Rattle.runs.proofs.Narrow.{in-range, range-in}
use Rattle.legs.specs.Slab.{column_holds, cell_holds}
use Rattle.entry.specs.declared.Fraction.{Fraction}
use Rattle.entry.specs.Entry.{later}
use Rattle.entry.specs.Inner.{entry_by}
use Rattle.touch.proofs.Scan.{In}
use Rattle.first_hit.specs.declared.Best.{Best}
use Rattle.first_hit.specs.declared.Traversal.{Traversal}
use Rattle.first_hit.specs.Inner.{sought, entered, FirstBelow, RowOf}
use Rattle.first_hit.proofs.Places.{Sought, count_most, count-more, below-count, row-start, row-end, pass-cells, meet-cell}
use Rattle.first_hit.proofs.Traversal.search_row.Goals as goal
use Rattle.first_hit.proofs.Traversal.search_row.Goals.{then-touch, else-touch}

-- ---- the row lies in the grid
module _ (t : Traversal) {j k : ℕ} (o : RowOf t j k) where
  j-grid : j < t.g.ny
  j-grid = omega (arith, o.to, t.inside.y)

  -- the cells in the slab in XY
  module _ {cells : CellRange} (n : Narrows t.block.x (column_holds t.slabs j) cells) where
    -- a cell that is looked for is one of them, and back
    given : {i : ℕ} → Sought t i j k → In cells i
    unfolding cell_holds
    given {i} w =
        in-range cells i
        (n.exact i ∙ (and-eq-true_iff (in_range t.block.x i) (column_holds t.slabs j i)).1 (range-in t.block.x i w.x.0 w.x.1, ((and-eq-true_iff _ _).0 w.cell).0))

    looked : (i : ℕ) → i < cells.end → cells.first ≤ i → cell_holds t.slabs i j k ≡ true → Sought t i j k
    looked i u l e = record { x = (omega (arith, l, n.from), omega (arith, u, n.to)); y = (o.from, o.to); z = (o.layer.from, o.layer.to); row = o.holds; cell = e }

    -- what `next_cell` requires of the row whose first cell has the number `row`
    module _ {row : ℕ} (is : row ≡ cell_number t.g.nx t.g.ny 0 j k) where
      row_fits : row + t.g.nx ≤ cell_count t.g
      row_fits =
          let g = t.g in
          let some = t.grid.within.x.some in
          let k-grid : k < g.nz = omega (arith, o.layer.to, t.inside.z) in
          omega (arith, is, number_lt g.nx g.ny g.nz (g.nx - 1) j k (omega (arith, some)) j-grid k-grid, some)

      fits : (row + cells.end ≤ 8 * length t.map.now) × (row + cells.end ≤ 262144)
      fits = (omega (arith, row_fits, n.to, t.inside.x, t.room), omega (arith, n.to, t.inside.x, count-more t row_fits))

pub remainder-requires : goal.remainder-requires
remainder-requires c =
    let t = c.args.self.now in
    (count_most t (below-count t c.args.old.cell c.requires.2.has), t.grid.within.x.some, t.grid.within.x.most)

pub next_cell-i-requires : goal.next_cell-i-requires
next_cell-i-requires c =
    let f = fits c.args.self.now c.requires.0 c.cells-cells.ensures c.cell_number-row.ensures in
    (c.cells-cells.ensures.ordered, f.0, f.1)

pub loop-i-init : goal.loop-i-init
loop-i-init c =
    let p = c.requires in
    let t = c.args.self.now in
    let n = c.next_cell-i.ensures in
    let cells = c.cells-cells.ensures in
    let is = c.cell_number-row.ensures in
    let at = j-grid t p.0 in (
      n.from,
      n.to,
      n.stopped,
      pass-cells t c.args.j c.args.k at is 0 c.next_cell-i.result (omega arith) (omega (arith, n.to, cells.to, t.inside.x))
          (λ i _ l full w _. apart full (n.skipped i l (given t p.0 cells w).0)) (row-start t c.args.j c.args.k at is p.2),
    )

pub next_cell-i-requires-in-loop-i : goal.next_cell-i-requires-in-loop-i
next_cell-i-requires-in-loop-i c =
    let p = c.requires in
    let t = c.args.self.now in
    let f = fits t p.0 c.cells-cells.ensures c.cell_number-row.ensures in
    (omega (arith, c.loop-i-test.true), f.0, f.1)

-- what is kept behind the loop's cell
abbrev Next : Traversal → (row i : ℕ) → Best → Type 0
Next t row i best = FirstBelow (sought t) (entered t) (row + (i + 1)) best

pub loop-i-preserved : goal.loop-i-preserved
loop-i-preserved c =
    let p = c.requires in
    let t = c.args.self.now in
    let a = c.args in
    let i = c.loop-i.i in
    let v = c.loop-i.invariant in
    let u = c.loop-i-test.true in
    let n = c.next_cell-i-in-loop-i.ensures in
    let row = c.cell_number-row.result in
    let is = c.cell_number-row.ensures in
    let cells = c.cells-cells.ensures in
    let at = j-grid t p.0 in
    let hi : i < t.g.nx = omega (arith, u, cells.to, t.inside.x) in
    let test = sym c.touch.ensures in
    let next : Next t row i c.if-touch.best = elim c.if-touch.branch [
      | then-touch w ↦
          subst (Next t row i) (sym (w.best-is ∙ w.or_nearer-best.ensures))
          (meet-cell t a.j a.k at is i hi (v.2 u) (looked t p.0 cells i u v.0 (test ∙ w.if-touch.true))
          (w.later_by-at.ensures ∙ ap (λ (f : Fraction). later f (entry_by t.entries.x i)) p.1) v.3)
      | else-touch w ↦
          subst (Next t row i) (sym w.best-is)
          (pass-cells t a.j a.k at is i (i + 1) (omega arith) (omega (arith, hi))
          (λ m l h _ q _. let same : m ≡ i = omega (arith, l, h) in apart (subst (λ (m : ℕ). cell_holds t.slabs m a.j a.k ≡ true) same q.cell) (test ∙ w.if-touch.false)) v.3)
    ] in (
      omega (arith, n.from, v.0),
      n.to,
      n.stopped,
      pass-cells t a.j a.k at is (i + 1) c.next_cell-i-in-loop-i.result n.from (omega (arith, n.to, cells.to, t.inside.x))
          (λ m l u full w _. apart full (n.skipped m u l)) next,
    )

pub returns : goal.returns
returns c =
    let p = c.requires in
    let t = c.args.self.now in
    let a = c.args in
    let v = c.loop-i.invariant in
    let is = c.cell_number-row.ensures in
    let cells = c.cells-cells.ensures in
    let at = j-grid t p.0 in
    row-end t a.j a.k at is
    (pass-cells t a.j a.k at is c.loop-i.i t.g.nx (omega (arith, v.1, cells.to, t.inside.x)) (omega arith)
    (λ i u _ _ w _. omega (arith, u, (given t p.0 cells w).1, c.loop-i-test.false)) v.3)
