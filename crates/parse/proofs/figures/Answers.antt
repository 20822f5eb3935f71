-- `parse::figures`: the figures that are left say what all of them say. Assumes nothing.
use Rattle.std.proofs.Common.{◌≡◌, sym, ◌∙◌, ◌≤◌, ◌⊎◌, inl, inr, false, arith, length, get_or}
use Rattle.std.specs.Char.{is_ascii_digit}
use Rattle.std.proofs.lemmas.Int.{ints}
use Rattle.parse.proofs.Laws.{none, first, more, stopped, all}
use Rattle.parse.proofs.figures.Goals as goal

pub returns-then-is_empty : goal.returns-then-is_empty
returns-then-is_empty c = grind (arith, none)

pub loop-c-init : goal.loop-c-init
loop-c-init c = (omega arith, grind (arith, first))

pub returns-then-not-is_ascii_digit : goal.returns-then-not-is_ascii_digit
returns-then-not-is_ascii_digit c =
    let wrong = elim c.then-not-is_ascii_digit.either as (λ _. (is_ascii_digit (get_or c.args.s.now c.loop-c.c-index 0) ≡ false) ⊎ (1000000000000000 ≤ c.loop-c.n)) [ inl f ↦ inl (sym c.is_ascii_digit.ensures.value ∙ f) | inr t ↦ inr t.1 ] in
    sym (stopped c.args.negative c.args.s.now c.loop-c.c-index c.loop-c.n c.loop-c-test.true wrong) ∙ c.loop-c.invariant.1

pub loop-c-preserved : goal.loop-c-preserved
loop-c-preserved c =
    let l = c.loop-c in
    let is = sym c.is_ascii_digit.ensures.value ∙ c.if-not-is_ascii_digit.false in
    let next = more c.args.negative c.args.s.now l.c-index l.n c.loop-c-test.true is c.if-n-ge1000000000000000.false in
    (omega (arith, c.if-not-is_ascii_digit.ensures), cc)

pub returns-then-negative : goal.returns-then-negative
returns-then-negative c =
    let l = c.loop-c in
    let end : length c.args.s.now ≡ l.c-index = omega arith in
    let last = all c.args.negative c.args.s.now l.n in
    grind (arith, ints)

pub returns-else-negative : goal.returns-else-negative
returns-else-negative c =
    let l = c.loop-c in
    let end : length c.args.s.now ≡ l.c-index = omega arith in
    let last = all c.args.negative c.args.s.now l.n in
    grind (arith, ints)
