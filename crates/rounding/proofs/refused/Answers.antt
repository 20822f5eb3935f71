-- `rounding::refused`: what is finite is outside the range.
use Rattle.std.proofs.Common.{◌≡◌, true, false, refl, sym, true≢false}
use lib.Ieee.{Float, nan, inf, fin}
use Rattle.std.specs.Float.{float_is_finite}
use Rattle.rounding.specs.declared.Unrounded.TheVariants.{NotFinite, OutOfRange}
use Rattle.rounding.specs.Inner.{refused_as}
use Rattle.rounding.proofs.refused.Goals as goal

finite : (x : Float) → float_is_finite x ≡ true → OutOfRange ≡ refused_as x
unfolding float_is_finite
finite nan e = absurd (true≢false (sym e))
finite (inf s) e = absurd (true≢false (sym e))
finite (fin s m k) e = refl

other : (x : Float) → float_is_finite x ≡ false → NotFinite ≡ refused_as x
unfolding float_is_finite
other nan e = refl
other (inf s) e = refl
other (fin s m k) e = absurd (true≢false e)

pub returns-then-is_finite : goal.returns-then-is_finite
returns-then-is_finite c = finite c.args.x (cc)

pub returns-else-is_finite : goal.returns-else-is_finite
returns-else-is_finite c = other c.args.x (cc)
