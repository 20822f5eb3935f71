-- `numbers::copy` meets its contract: after i turns the first i numbers are copied and the others as they came.
use Rattle.std.proofs.Common.{rules, ◌≡◌, ◌++◌, ◌+◌, ◌<◌, ◌∙◌, ap, zero-add, List, ℕ, ℤ, pos, length, take, drop, w32, to_z, of_z, arith}
use native.Mathlib.Numerals.{add-one}
use lib.ListN.{get_or, set, length-set}
use lib.Seq.{paste-suc}
use mir.Facts.{to_z-of_z}
use Rattle.numbers.proofs.copy.Goals as goal

-- a turn's store takes the copy of i numbers to that of i + 1
copied_more : (o n : List ℤ) (i : ℕ) → i < length o → i < length n
    → set (take i n ++ drop i o) i (get_or n i (pos 0)) ≡ take (i + 1) n ++ drop (i + 1) o
copied_more o n i h k = rw (add-one i) (simp zero-add at (paste-suc o 0 n i (pos 0) (omega arith) k))

pub loop-i-preserved : goal.loop-i-preserved
loop-i-preserved c =
    let n = c.args.numbers.now in
    let o = c.args.out.now in
    let i = c.loop-i.i in (
      simp length-set (omega arith),
      ap (λ (l : List ℤ). set l i (to_z w32 (of_z w32 (get_or n i (pos 0))))) c.loop-i.invariant.1
          ∙ ap (λ (z : ℤ). set (take i n ++ drop i o) i z) (to_z-of_z {w = w32} (search rules))
          ∙ copied_more o n i (omega arith) (omega arith),
    )
