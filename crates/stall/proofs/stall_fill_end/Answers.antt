-- `stall::stall_fill_end`: the step's answer, packed.
use Rattle.std.proofs.Common.{ap, ◌∙◌}
use Rattle.pack.specs.Pack.{packed_count}
use Rattle.pack.proofs.Unpack.{counted}
use Rattle.stall.proofs.Fitting.{ending-fits}
use Rattle.stall.proofs.stall_fill_end.Goals as goal

pub returns : goal.returns
returns c =
    let a = c.args in
    let e = c.pack_count.ensures ∙ ap packed_count c.end.ensures in
    (e, counted (ending-fits a.file.now a.map.now) e)
