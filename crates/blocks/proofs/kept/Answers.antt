-- `blocks::kept`: an edge rules the block out, or none does.
use Rattle.std.proofs.Common.{◌≡◌, ◌&&◌, ℤ, pos, sym, ap, ◌∙◌, to_z, of_z, w64}
use mathlib.Core.Bool.{false≢true}
use lib.Signed.{le_z}
use Rattle.integers.proofs.Machine.{back}
use Rattle.blocks.specs.Block.{kept_by}
use Rattle.blocks.proofs.kept.Goals as goal
use Rattle.blocks.proofs.kept.Goals.{then-far_value-ge0, else-far_value-ge0}

-- the test of a value v, by the machine's r of it
test : {r v : ℤ} → to_z w64 (of_z w64 r) ≡ r → r ≡ v → le_z (pos 0) (to_z w64 (of_z w64 r)) ≡ le_z (pos 0) v
test b e = ap (le_z (pos 0)) (b ∙ e)

pub returns-then-far_value-ge0-2 : goal.returns-then-far_value-ge0-2
unfolding kept_by
returns-then-far_value-ge0-2 c =
    elim c.if-far_value-ge0.branch [
      | then-far_value-ge0 w ↦
          let last = c.far_value-then-far_value-ge0-2 in
          let third = test (back w64 last.type_inv) last.ensures in
          let first = sym (test (back w64 c.far_value.type_inv) c.far_value.ensures) ∙ w.if-far_value-ge0.true in
          let two = w.far_value-then-far_value-ge0 in
          let second = sym (test (back w64 two.type_inv) two.ensures) ∙ sym w.value-is ∙ c.if-far_value-ge0-2.true in
          λ i. sym first i && sym second i && third i
      | else-far_value-ge0 w ↦ absurd (false≢true (sym w.if-far_value-ge0.false ∙ sym w.value-is ∙ c.if-far_value-ge0-2.true))
    ]
