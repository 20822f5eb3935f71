-- `entry::Fraction::later_by`: the greater of the two, by the test.
use mathlib.Core.Path.{◌≡◌, sym, ◌∙◌, subst}
use Rattle.entry.specs.Ratio.{Ratio}
use Rattle.entry.specs.Entry.{later}
use Rattle.entry.proofs.Fraction.later_by.Goals as goal

pub returns-then-is_earlier : goal.returns-then-is_earlier
unfolding later
returns-then-is_earlier c =
    subst (λ (g : Ratio). c.at-g.result ≡ later c.args.self g) c.at-g.ensures (rw (sym c.is_earlier.ensures ∙ c.if-is_earlier.true))

pub returns-else-is_earlier : goal.returns-else-is_earlier
unfolding later
returns-else-is_earlier c =
    subst (λ (g : Ratio). c.args.self ≡ later c.args.self g) c.at-g.ensures (rw (sym c.is_earlier.ensures ∙ c.if-is_earlier.false))
