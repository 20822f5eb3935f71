-- `ply_header::read_digits`: each turn is one step of `count_from`.
use Rattle.std.proofs.Common.{sym, ◌∙◌, arith}
use Rattle.ply_header.proofs.Counts.{digit-is, digit-within, cut, feed, other, much, next}
use Rattle.ply_header.proofs.read_digits.Goals as goal

pub returns-then-c-eq10 : goal.returns-then-c-eq10
returns-then-c-eq10 c = feed c.loop-i.invariant c.loop-i-test.true c.if-c-eq10.true

pub returns-then-not-is_ascii_digit : goal.returns-then-not-is_ascii_digit
returns-then-not-is_ascii_digit c =
    other c.loop-i.invariant c.loop-i-test.true c.if-c-eq10.false (sym (digit-is _) ∙ sym c.is_ascii_digit.ensures.value ∙ c.if-not-is_ascii_digit.true)

pub returns-then-s-v : goal.returns-then-s-v
returns-then-s-v c =
    let d = sym (digit-is _) ∙ sym c.is_ascii_digit.ensures.value ∙ c.if-not-is_ascii_digit.false in
    let w = digit-within _ d in
    much c.loop-i.invariant c.loop-i-test.true d (omega arith)

pub returns-then-s-v-2 : goal.returns-then-s-v-2
returns-then-s-v-2 c =
    much c.loop-i.invariant c.loop-i-test.true (sym (digit-is _) ∙ sym c.is_ascii_digit.ensures.value ∙ c.if-not-is_ascii_digit.false) (omega arith)

pub loop-i-preserved : goal.loop-i-preserved
loop-i-preserved c =
    rw c.from.ensures (next c.loop-i.invariant c.loop-i-test.true (sym (digit-is _) ∙ sym c.is_ascii_digit.ensures.value ∙ c.if-not-is_ascii_digit.false) (omega arith))

pub returns : goal.returns
returns c = cut c.loop-i.invariant c.loop-i-test.false
