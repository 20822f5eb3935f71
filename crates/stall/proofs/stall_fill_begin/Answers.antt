-- `stall::stall_fill_begin`: the step's answer, packed.
use Rattle.std.proofs.Common.{ap, ◌∙◌}
use Rattle.pack.specs.Pack.{packed_count}
use Rattle.pack.proofs.Unpack.{counted}
use Rattle.stall.proofs.Fitting.{beginning-fits}
use Rattle.stall.proofs.stall_fill_begin.Goals as goal

pub returns : goal.returns
returns c =
    let a = c.args in
    let e = c.pack_count.ensures ∙ ap packed_count c.begin.ensures.0 in
    (e, counted (beginning-fits a.file.now a.map.now) e, c.begin.ensures.1)
