-- `route::Route::test`: questions 8 to 10, then the legs.
use Rattle.std.proofs.Common.{length, sym, ap, ◌∙◌}
use Rattle.refusal.specs.Limit.{gives}
use Rattle.refusal.proofs.Asking.{refuses, passes}
use Rattle.refusal.proofs.Said.{said-err}
use Rattle.demand.proofs.Answers.{last-passed}
use Rattle.route.proofs.Route.test.Goals as goal

pub test_legs-requires : goal.test_legs-requires
test_legs-requires c = let r = c.args.self.now in last-passed r.g (length c.args.map.now) r.numbers.now (sym c.in_ok-check.ensures)

pub returns-in_err-check : goal.returns-in_err-check
returns-in_err-check c = said-err _ _ c.from_residual.ensures.1 ∙ sym (refuses _ _ (sym c.in_err-check.ensures))

pub returns : goal.returns
returns c = ap gives c.test_legs.ensures ∙ sym (passes _ _ (sym c.in_ok-check.ensures))
