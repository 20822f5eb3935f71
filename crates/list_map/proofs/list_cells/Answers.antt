-- `list_cells` ends: a piece that leaves cells for the next one has passed a cell.
use Rattle.std.proofs.Common.{◌≡◌, List, ℕ, suc, ◌≤◌, length, sym, ap, ◌∙◌, arith, Option, Some, None}
use Rattle.listing.specs.declared.Rest.{Rest}
use Rattle.listing.specs.Listing.{piece, part_with, said_piece}
use Rattle.listing.proofs.Whole.{goes_on}
use Rattle.list_map.proofs.list_cells.Invariants.{pieces_left}
use Rattle.list_map.proofs.list_cells.Goals as goal

fewer : (map out : List ℕ) {left : Option Rest} {rest : Rest} (len : ℕ) (o : Option Rest) → left ≡ Some rest → 9 ≤ length out → part_with len o ≡ piece map rest out → suc (pieces_left o) ≤ pieces_left left
fewer map out {left} {rest} len None e h p = rw e (omega arith)
fewer map out {left} {rest} len (Some next) e h p = let passed = goes_on map rest out len next h (sym p) in rw e (omega (arith, passed))

pub loop-left-smaller : goal.loop-left-smaller
loop-left-smaller g c =
    let l = c.loop-left in
    let p = c.in-Some-more.piece in
    fewer c.args.map.now l.out p.len p.rest c.in-Some.is (omega arith) (ap said_piece (sym c.in-Some-more.is) ∙ c.more.ensures.0)
