-- `rounding::nearest`: between the ends there is a number, and beyond them there is none.
use Rattle.std.proofs.Common.{◌≡◌, Ok, Err, sym, ap, ◌∙◌, w32, rules}
use lib.Ieee.{of_bits, neg}
use mir.Facts.{to_z-of_z}
use Rattle.rounding.specs.Rounding.{rounded_of, is_whole}
use Rattle.rounding.specs.Inner.{refused_as}
use Rattle.rounding.proofs.Cases.{in-range, too-low, too-high, holds, fails}
use Rattle.rounding.proofs.Meaning.{told, whole_back}
use Rattle.rounding.proofs.nearest.Goals as goal
use Rattle.rounding.proofs.nearest.Goals.{else-x-via-then-x+else-x-2, else-x-via-else-x}

pub whole-requires : goal.whole-requires
unfolding of_bits neg
whole-requires c = ap is_whole (in-range c.args.x (holds c.if-x.true) (holds c.if-x-2.true))

pub returns-then-x-2 : goal.returns-then-x-2
unfolding of_bits neg
returns-then-x-2 c =
    told _ (ap Ok (to_z-of_z {w = w32} {z = c.whole.result} (search rules) ∙ c.whole.ensures) ∙ whole_back _ (ap is_whole (in-range c.args.x (holds c.if-x.true) (holds c.if-x-2.true))))

pub returns-else-x : goal.returns-else-x
unfolding of_bits neg
returns-else-x c =
    let outside : rounded_of c.args.x ≡ Err (refused_as c.args.x) = elim c.else-x.branch [ else-x-via-then-x+else-x-2 w ↦ too-high _ (fails w.if-x-2.false) | else-x-via-else-x w ↦ too-low _ (fails w.if-x.false) ] in
    told _ (ap Err c.refused.ensures ∙ sym outside)
