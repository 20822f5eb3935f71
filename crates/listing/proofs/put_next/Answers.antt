-- `listing::put_next`: cells are passed, and a line is put. Assumes nothing.
use Rattle.std.proofs.Common.{List, ℕ, ◌<◌, arith, subst, rules}
use Rattle.grid.specs.Cells.{x_of_cell, y_of_cell, z_of_cell}
use Rattle.grid.proofs.Numbers.{x_lt, y-lt, z-lt}
use Rattle.map.specs.Map.{is_filled}
use Rattle.text.specs.Inner.{Puts}
use Rattle.grid.specs.Grid.{cell_count}
use Rattle.listing.specs.Listing.{line_of}
use Rattle.listing.proofs.Usable.{usable-grid, most-layers, most-cells}
use Rattle.listing.proofs.Advance.{advance-skip, advance-line, advance-more, no_line, filled-line}
use Rattle.listing.proofs.put_next.Goals as goal

pub cell_count-all-requires : goal.cell_count-all-requires
cell_count-all-requires c = let (x, y, z, room) = usable-grid _ _ c.requires.0 in (x.most, y.most, z.most)

pub next_filled-n-requires : goal.next_filled-n-requires
next_filled-n-requires c =
    let u = c.requires.0 in
    let (x, y, z, room) = usable-grid _ _ u in
    rw c.cell_count-all.ensures.0 (omega arith, omega (arith, room), most-cells _ _ u)

pub returns-then-all-n : goal.returns-then-all-n
returns-then-all-n c =
    let a = c.args in
    let found = rw c.cell_count-all.ensures.0 at c.next_filled-n.ensures in (
      advance-skip (line_of (is_filled a.map.now) a.g) (cell_count a.g) a.cell a.at c.next_filled-n.result a.out.now found.from found.to c.requires.2 (no_line a.map.now a.g.nx a.g.ny found),
      omega (arith, c.cell_count-all.ensures.0, c.if-all-n.true),
    )

pub put_place-behind-requires : goal.put_place-behind-requires
put_place-behind-requires c =
    let g = c.args.g in
    let u = c.requires.0 in
    let (x, y, z, bytes) = usable-grid _ _ u in
    let n = c.next_filled-n.result in
    let i : x_of_cell g.nx n < 64 = omega (arith, x, x_lt g.nx g.ny n x.some) in
    let j : y_of_cell g.nx g.ny n < 64 = omega (arith, y, y-lt g.nx g.ny n y.some) in
    let k : z_of_cell g.nx g.ny n < 64 = z-lt g.nx g.ny 64 n x.some y.some (omega (arith, most-layers _ _ u, c.cell_count-all.ensures.0, c.if-all-n.false)) in
    (omega (arith, i, j, k), omega (arith, i, j, k), omega (arith, i, j, k), c.requires.2)

pub returns : goal.returns
returns c =
    let a = c.args in
    let lines = line_of (is_filled a.map.now) a.g in
    let n = c.next_filled-n.result in
    let found = rw c.cell_count-all.ensures.0 at c.next_filled-n.ensures in
    let below = rw c.cell_count-all.ensures.0 at c.if-all-n.false in
    let new = c.put_place-behind.new.out in
    let behind = c.put_place-behind.result in
    let (puts, fits) = c.put_place-behind.ensures in
    let passed = advance-skip lines (cell_count a.g) a.cell a.at n a.out.now found.from found.to c.requires.2 (no_line a.map.now a.g.nx a.g.ny found) in
    let line = subst (λ (t : List ℕ). Puts a.out.now a.at t new behind) (filled-line a.map.now a.g.nx a.g.ny n (found.stopped below)) puts in
    (advance-more lines (cell_count a.g) passed (advance-line lines (cell_count a.g) n a.at behind a.out.now new below c.requires.2 (search rules) fits line), omega (arith, found.from))
