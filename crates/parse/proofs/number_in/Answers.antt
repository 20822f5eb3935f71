-- `parse::number_in`: the prefix that is taken off is the minus sign. Assumes nothing.
use Rattle.std.proofs.Common.{true, ap, ◌∙◌}
use Rattle.parse.specs.Parse.{figures, number_in}
use Rattle.parse.proofs.Laws.{minus}
use Rattle.parse.proofs.number_in.Goals as goal

pub returns-in-Some : goal.returns-in-Some
unfolding number_in
returns-in-Some c =
    let (is, rest, _) = c.in-Some.ensures.cases in
    rw (minus c.args.word.now ∙ is) (c.figures.ensures ∙ ap (figures true) rest)

pub returns-in-None : goal.returns-in-None
unfolding number_in
returns-in-None c = rw (minus c.args.word.now ∙ c.in-None.ensures.cases) c.figures-in-None.ensures
