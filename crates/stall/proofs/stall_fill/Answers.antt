-- `stall::stall_fill`: the fill's answer, packed.
use Rattle.std.proofs.Common.{ap, ◌∙◌}
use Rattle.pack.specs.Pack.{packed_count}
use Rattle.pack.proofs.Unpack.{counted}
use Rattle.stall.proofs.Fitting.{filling-fits}
use Rattle.stall.proofs.stall_fill.Goals as goal

pub returns : goal.returns
returns c =
    let a = c.args in
    let e = c.pack_count.ensures ∙ ap packed_count c.fill.ensures.0 in
    (e, counted (filling-fits a.file.now a.map.now) e, c.fill.ensures.1)
