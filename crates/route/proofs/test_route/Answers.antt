-- `route::test_route`: the answer is the definition's, of which demand 3 is a theorem.
use Rattle.std.proofs.Common.{◌≡◌, ℕ, List, sym, ap, ◌∙◌}
use Rattle.refusal.specs.Limit.{gives}
use Rattle.layout.specs.declared.Header.{Header}
use Rattle.frame.specs.Questions.{checked}
use Rattle.refusal.proofs.Said.{said-err}
use Rattle.frame.proofs.Accepted.{accepted}
use Rattle.demand.proofs.Answers.{answer-refused, answer-accepted}
use Rattle.demand.proofs.Demand.{demand-of}
use Rattle.route.proofs.test_route.Goals as goal

pub returns-in_err-frame : goal.returns-in_err-frame
returns-in_err-frame c =
    let a = c.args in
    demand-of a.file.now a.map.now a.numbers.now
    (said-err _ _ c.from_residual.ensures.1 ∙ sym (answer-refused a.file.now a.map.now a.numbers.now (sym c.in_err-frame.ensures.said)))

-- the header that is read is the accepted file's
checked-is : (file : List ℕ) {h header : Header} → h ≡ header → gives header ≡ checked file → checked file ≡ gives h
checked-is file same said = sym said ∙ ap gives (sym same)

pub invariant_of-route : goal.invariant_of-route
invariant_of-route c = record { usable = (accepted _ _ (checked-is c.args.file.now c.header.ensures c.in_ok-frame.ensures.said)).grid }

pub returns : goal.returns
returns c =
    let a = c.args in
    demand-of a.file.now a.map.now a.numbers.now
    (c.test.ensures ∙ sym (answer-accepted a.file.now a.map.now a.numbers.now _ (checked-is c.args.file.now c.header.ensures c.in_ok-frame.ensures.said)))
