-- `list_cells` goes on from a later cell with each piece, and there are at most 262,144 cells.
use Rattle.std.proofs.Common.{◌≡◌, ℕ, suc, ◌-◌, length, Option, Some, None}
use Rattle.listing.specs.declared.Rest.{Rest}
use Rattle.list_map.proofs.list_cells.Given as goal

-- how many pieces may come
abbrev pub pieces_left : Option Rest → ℕ
pieces_left None = 0
pieces_left (Some rest) = suc (262144 - rest.from)

abbrev pub invariant-loop-left : goal.invariant-loop-left
invariant-loop-left g l = length l.out ≡ length l.initial.out

abbrev pub decreases-loop-left : goal.decreases-loop-left
decreases-loop-left g l = pieces_left l.left
