-- `blocks::halve`. The cells that are filled, or wanted in a pending block, are always the same; the pending blocks grow lighter; and the
-- block at place p of the list wants at most 12 − p halvings, so that the list has room.
use Rattle.std.proofs.Common.{Bool, ℕ, ◌+◌, ◌≤◌}
use Rattle.pending.specs.Pending.{Progress, Each, load}
use Rattle.columns.specs.declared.ready.Columns.{Columns}
use Rattle.columns.specs.declared.Strides.{Strides}
use Rattle.columns.specs.Draw.{drawn}
use Rattle.columns.specs.Column.{cell_passes}
use Rattle.blocks.specs.declared.shape.Block.{Block}
use Rattle.blocks.specs.Block.{columns_of, depth_of, BlockIn}
use Rattle.blocks.proofs.halve.Given as goal

abbrev pub wanted : Columns → Block → ℕ → Bool
wanted c b = drawn c.g (columns_of b) (cell_passes c.forms.now c.w)

-- what holds of a block at its place of the list
abbrev pub Waits : Strides → ℕ → Block → Type 0
Waits g place b = BlockIn g.nu g.nv b × (depth_of b + place ≤ 12)

abbrev pub invariant-loop-b : goal.invariant-loop-b
invariant-loop-b l =
    Each (Waits l.all.g) l.pending × Progress (wanted l.all) l.fn.whole l.initial.map l.pending l.map × (l.all.w.first ≤ l.near) × (l.near ≤ l.all.w.end)

abbrev pub decreases-loop-b : goal.decreases-loop-b
decreases-loop-b l = load depth_of l.pending
