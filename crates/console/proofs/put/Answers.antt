-- `put` keeps its invariant: what a write takes is the next part of the bytes.
use Rattle.std.proofs.Common.{arith, subst}
use Rattle.std.specs.Io.KnownBytes.{Appends}
use Rattle.std.proofs.KnownBytes.{Appends-trans}
use Rattle.console.proofs.Parts.{front_and_next}
use Rattle.console.proofs.put.Goals as goal

pub loop-done-preserved : goal.loop-done-preserved
loop-done-preserved g c =
    let (within, written) = c.loop-done.invariant in
    let took = c.in_ok-more.ensures in
    let joined = front_and_next c.loop-done.done c.in_ok-more.more c.args.bytes.now in
    (omega (arith, took.bound), subst (Appends _ _) joined (Appends-trans _ _ _ _ _ written took.bytes))
