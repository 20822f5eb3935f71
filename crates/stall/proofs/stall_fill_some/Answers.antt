-- `stall::stall_fill_some`: the step's answer, packed.
use Rattle.std.proofs.Common.{ap, ◌∙◌}
use Rattle.pack.specs.Pack.{packed_count}
use Rattle.pack.proofs.Unpack.{counted}
use Rattle.stall.proofs.Fitting.{joining-fits}
use Rattle.stall.proofs.stall_fill_some.Goals as goal

pub returns : goal.returns
returns c =
    let a = c.args in
    let e = c.pack_count.ensures ∙ ap packed_count c.some.ensures.0 in
    (e, counted (joining-fits a.file.now a.map.now a.first a.count) e, c.some.ensures.1)
