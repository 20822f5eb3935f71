-- `listing::put_cells`: the lines passed are put, and the piece's end is the same. Assumes nothing.
use Rattle.std.proofs.Common.{◌≡◌, ◌-◌, length}
use Rattle.grid.specs.Grid.{cell_count}
use Rattle.map.specs.Map.{is_filled}
use Rattle.listing.specs.Listing.{line_of}
use Rattle.listing.specs.Inner.{Advances}
use Rattle.listing.proofs.put_cells.Given as goal

abbrev pub invariant-loop-cell : goal.invariant-loop-cell
invariant-loop-cell l = Advances (line_of (is_filled l.map) l.g) (cell_count l.g) l.from 0 l.initial.out l.cell l.at l.out × (length l.out ≡ length l.initial.out)

abbrev pub decreases-loop-cell : goal.decreases-loop-cell
decreases-loop-cell l = l.all - l.cell
