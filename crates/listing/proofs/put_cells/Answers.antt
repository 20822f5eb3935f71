-- `listing::put_cells`: the lines passed are put, and the piece's end is the same. Assumes nothing.
use Rattle.std.proofs.Common.{List, ℕ, ◌≡◌, refl, sym, ap, ◌∙◌, ◌-◌, ◌<◌, arith, length}
use Rattle.grid.specs.Grid.{cell_count}
use Rattle.map.specs.Map.{is_filled}
use Rattle.text.specs.Lines.{line_most}
use Rattle.listing.specs.Listing.{line_of}
use Rattle.listing.specs.Inner.{stop_at, Advances}
use Rattle.listing.proofs.Advance.{advance-none, advance-more}
use Rattle.listing.proofs.Lines.{stop-here, stop-end}
use Rattle.listing.proofs.Usable.{usable-grid}
use Rattle.listing.proofs.put_cells.Goals as goal

pub cell_count-all-requires : goal.cell_count-all-requires
cell_count-all-requires c = let (x, y, z, room) = usable-grid _ _ c.requires in (x.most, y.most, z.most)

pub loop-cell-init : goal.loop-cell-init
loop-cell-init c = (advance-none _ _ _ _, refl)

pub loop-cell-preserved : goal.loop-cell-preserved
loop-cell-preserved c = (advance-more (line_of (is_filled c.args.map.now) c.args.g) (cell_count c.args.g) c.loop-cell.invariant.0 c.put_next-next.ensures.0, omega arith)

-- a loop that is left where the piece ends has reached its end
finish : (line : ℕ → List ℕ) (count : ℕ) {from cell at : ℕ} {old new : List ℕ} → Advances line count from 0 old cell at new
    → stop_at line (length old - at) cell (count - cell) ≡ cell → Advances line count from 0 old cell at new × (cell ≡ stop_at line (length old) from (count - from))
finish line count {from} {cell} {at} {old} p end =
    let whole : length old - 0 ≡ length old = omega arith in
    (p, sym end ∙ p.stop ∙ ap (λ (r : ℕ). stop_at line r from (count - from)) whole)

pub returns-after-loop-cell : goal.returns-after-loop-cell
returns-after-loop-cell c =
    let l = c.loop-cell in
    let line = line_of (is_filled c.args.map.now) c.args.g in
    let room = length c.args.out.now - l.at in
    let none : cell_count c.args.g - l.cell ≡ 0 = omega (arith, c.cell_count-all.ensures.0, c.loop-cell-test.false) in
    finish line (cell_count c.args.g) l.invariant.0 (ap (stop_at line room l.cell) none ∙ stop-end line room l.cell)

pub returns-then-out-at-lt9 : goal.returns-then-out-at-lt9
returns-then-out-at-lt9 c =
    let l = c.loop-cell in
    let line = line_of (is_filled c.args.map.now) c.args.g in
    let room = length c.args.out.now - l.at in
    let full : room < line_most = omega arith in
    finish line (cell_count c.args.g) l.invariant.0 (stop-here line room l.cell (cell_count c.args.g - l.cell) full)
