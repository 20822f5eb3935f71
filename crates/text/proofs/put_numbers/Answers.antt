-- `text::put_numbers`: the numbers that were passed stand there. Assumes nothing.
use Rattle.std.proofs.Common.{◌≤◌, refl, sym, arith, length, w32, rules}
use Rattle.std.proofs.lemmas.Int.{to_z-of_z}
use Rattle.text.specs.Text.{spaced}
use Rattle.text.proofs.Spaced.{spaced-more}
use Rattle.text.proofs.Texts.{spliced-none, puts-more}
use Rattle.text.proofs.put_numbers.Goals as goal

pub loop-number-init : goal.loop-number-init
unfolding spaced
loop-number-init c = (refl, omega arith, record { bytes = sym (spliced-none c.args.out.now c.args.at); next = omega arith })

pub loop-number-preserved : goal.loop-number-preserved
loop-number-preserved c =
    let a = c.args in
    let l = c.loop-number in
    let room : a.at ≤ length a.out.now = omega arith in
    let text = spaced-more a.numbers.now l.number-index c.loop-number-test.true (to_z-of_z w32 _ (search rules)) in (
      omega arith,
      omega (arith, c.put_signed-behind.ensures.1, c.put_byte-end.ensures.next),
      rw (← text) (puts-more room (puts-more room l.invariant.2 c.put_signed-behind.ensures.0) c.put_byte-end.ensures),
    )
