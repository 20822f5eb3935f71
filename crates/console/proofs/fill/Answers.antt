-- `fill` keeps its invariant: what a read gives stands behind what was read before.
use Rattle.std.proofs.Common.{rules, subst}
use Rattle.std.specs.Io.KnownBytes.{Consumes}
use Rattle.std.proofs.KnownBytes.{Consumes-trans}
use Rattle.console.proofs.Parts.{front_and_put}
use Rattle.console.proofs.fill.Goals as goal

pub loop-done-preserved : goal.loop-done-preserved
loop-done-preserved g c =
    let (same, within, read) = c.loop-done.invariant in
    let joined = front_and_put c.loop-done.done _ c.in-Ok.more c.loop-done.buf c.read.new.buf within c.in-Ok.ensures.bound.0 in
    (search rules, search rules, subst (Consumes _ _) joined (Consumes-trans _ _ _ _ _ read c.in-Ok.ensures.bytes.0))
