-- `text::put_signed`: the text is the one that the library prints. Assumes nothing.
use Rattle.std.proofs.Common.{◌≡◌, ◌<◌, ◌^◌, ap, ◌∙◌, to_z, of_z, w32, arith, rules}
use Rattle.std.proofs.lemmas.Int.{to_z-of_z}
use Rattle.std.specs.Int.Signed.{mag}
use Rattle.std.specs.Fmt.{signed_decimal as signed_shown}
use Rattle.text.proofs.Decimals.{signed-printed}
use Rattle.text.proofs.put_signed.Goals as goal

pub returns : goal.returns
returns c =
    let z = c.args.z in
    let passed : to_z w32 (of_z w32 z) ≡ z = to_z-of_z w32 z (search rules) in
    let short : mag z < 2 ^ 63 = omega (arith, c.ranges.z.sfits) in
    let text = c.as_bytes.ensures.value ∙ c.format.ensures.text ∙ ap signed_shown passed ∙ signed-printed z short in
    let printed = c.put_word.ensures in
    (rw (← text) printed, omega (arith, printed.next, c.as_bytes.ensures.len, c.format.ensures.fits))
