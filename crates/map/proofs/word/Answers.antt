-- `map::word`: the ones of eight bytes, joined.
use Rattle.std.proofs.Common.{◌≡◌, add-zero, arith}
use Rattle.map.proofs.Counts.{little, ones-little}
use Rattle.map.proofs.word.Goals as goal

pub returns : goal.returns
returns c =
    let s = c.args.map.now in
    let i = c.args.i in
    let all = ones-little s (λ j. omega (arith, c.type_inv.map j)) i 0 8 in
    let same : little s i 0 8 ≡ c.from_le_bytes.result = rw add-zero (omega arith) in
    rw add-zero at (rw same at all)
