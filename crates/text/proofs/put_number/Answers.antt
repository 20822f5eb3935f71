-- `text::put_number`: the digits are those that the library prints. Assumes nothing.
use Rattle.std.proofs.Common.{◌∙◌, ap, length, arith, rules}
use Rattle.text.proofs.Decimals.{printed}
use Rattle.text.proofs.put_number.Goals as goal

pub put_word-requires : goal.put_word-requires
put_word-requires c =
    let digits = c.as_bytes.ensures.value ∙ c.format.ensures.text ∙ printed c.args.n (search rules) in
    omega (arith, ap length digits)

pub returns : goal.returns
returns c =
    let digits = c.as_bytes.ensures.value ∙ c.format.ensures.text ∙ printed c.args.n (search rules) in
    rw (← digits) c.put_word.ensures
