-- `listing::more`: lines put up to the piece's end are the piece. Assumes nothing.
use borrow.Author.Tests.{lt-ltb, le-ltb}
use Rattle.std.proofs.Common.{refl, sym, ◌∙◌}
use Rattle.listing.specs.Listing.{piece, piece_bytes}
use Rattle.listing.proofs.Advance.{advance-piece}
use Rattle.listing.proofs.Usable.{usable-grid}
use Rattle.listing.proofs.more.Goals as goal

pub returns-then-not-is_usable : goal.returns-then-not-is_usable
unfolding piece piece_bytes
returns-then-not-is_usable c = rw (sym c.is_usable.ensures ∙ c.if-not-is_usable.true) (refl, refl)

pub cell_count-requires : goal.cell_count-requires
cell_count-requires c =
    let (x, y, z, room) = usable-grid _ _ (sym c.is_usable.ensures ∙ c.if-not-is_usable.false) in
    (x.most, y.most, z.most)

pub returns-then-end-cell_count : goal.returns-then-end-cell_count
returns-then-end-cell_count c =
    let p = advance-piece c.args.map.now c.args.rest (sym c.is_usable.ensures ∙ c.if-not-is_usable.false) c.put_cells-end.ensures.0 c.put_cells-end.ensures.1 in
    (rw (lt-ltb _ _ (rw c.cell_count.ensures.0 at c.if-end-cell_count.true)) at p.0, p.1)

pub returns-else-end-cell_count : goal.returns-else-end-cell_count
returns-else-end-cell_count c =
    let p = advance-piece c.args.map.now c.args.rest (sym c.is_usable.ensures ∙ c.if-not-is_usable.false) c.put_cells-end.ensures.0 c.put_cells-end.ensures.1 in
    (rw (le-ltb _ _ (rw c.cell_count.ensures.0 at c.if-end-cell_count.false)) at p.0, p.1)
