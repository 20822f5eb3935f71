-- `map::count_bytes`: a word's ones are the filled cells of eight bytes, and a byte's those of one.
use Rattle.std.proofs.Common.{◌≡◌, ◌+◌, ◌*◌, ◌<◌, ◌≤◌, ◌∙◌, sym, ap, get_or, arith}
use lib.Count.{ones, ones-le}
use Rattle.map.specs.Map.{is_filled}
use Rattle.map.proofs.Counts.{count_none, count-byte, ones-zero}
use Rattle.map.proofs.count_bytes.Goals as goal
use Rattle.map.proofs.count_bytes.Goals.{then-w-ne0, else-w-ne0}

pub loop-i-init : goal.loop-i-init
loop-i-init c = (omega arith, sym (count_none (is_filled c.args.map.now)))

pub loop-i-preserved : goal.loop-i-preserved
loop-i-preserved c =
    let end : (c.loop-i.i * 8 + 8) * 8 ≡ (c.loop-i.i + 1) * 8 * 8 = omega arith in
    let more = rw end at c.word-w.ensures.counted in
    let few : ones c.word-w.result ≤ 64 = ones-le 64 c.word-w.result (omega arith) in
    elim c.if-w-ne0.branch [
      | then-w-ne0 w ↦ (omega arith, omega arith)
      | else-w-ne0 w ↦ (omega arith, omega (arith, ap ones w.if-w-ne0.false ∙ ones-zero))
    ]

pub loop-k-preserved : goal.loop-k-preserved
loop-k-preserved c =
    let k = c.loop-k.k in
    let byte-lt : get_or c.args.map.now k 0 < 256 = omega (arith, c.type_inv.map k) in
    let few : ones (get_or c.args.map.now k 0) ≤ 8 = ones-le 8 (get_or c.args.map.now k 0) byte-lt in
    let more = count-byte c.args.map.now k byte-lt in
    (omega arith, omega arith)
