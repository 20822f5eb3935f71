-- `map::count`: one cell more is counted as the bit that it is.
use Rattle.std.proofs.Common.{◌≡◌, ap, ◌∙◌, arith}
use Rattle.map.specs.Map.{is_filled, bit}
use Rattle.map.proofs.Counts.{count-more, from-bit, bit-most}
use Rattle.map.proofs.count.Goals as goal

pub loop-n-preserved : goal.loop-n-preserved
loop-n-preserved c =
    let cell = is_filled c.args.map.now c.loop-n.n in
    let here : c.from-sum.result ≡ bit cell = c.from-sum.ensures ∙ from-bit c.is_filled.result ∙ ap bit c.is_filled.ensures in
    let more = count-more (is_filled c.args.map.now) c.loop-n.n in
    let few = bit-most cell in
    (omega arith, omega arith)
