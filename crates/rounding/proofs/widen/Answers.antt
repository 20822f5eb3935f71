-- `rounding::widen`: an `i32` has few enough digits to be a float exactly.
use Rattle.std.proofs.Common.{ap, ◌∙◌, w32, FitsSigned, rules}
use lib.Ieee.{binary64, of_int}
use mir.Facts.{to_z-of_z}
use Rattle.rounding.proofs.Wholes.{as_int}
use Rattle.rounding.proofs.widen.Goals as goal

pub returns-in-Int : goal.returns-in-Int
returns-in-Int c =
    let fits : FitsSigned w32 c.in-Int.k = search rules in
    as_int c.in-Int.k c.in-Int.is fits.sfits (c.from-in-Int.ensures ∙ ap (of_int binary64) (to_z-of_z fits))
