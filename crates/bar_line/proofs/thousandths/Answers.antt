-- `bar_line::thousandths`: the quotient of the sizes, with the sign. Assumes nothing.
use Rattle.std.proofs.Common.{ℤ, pos, negsuc, ◌≡◌, refl, sym, ◌*◌, ◌^◌, ◌<◌, ◌≤◌, ◌<ℤ◌, ◌≤ℤ◌, arith, w64}
use native.Mathlib.Nat.{div-lt_iff_lt-mul}
use lib.IntN.{nat_abs}
use mir.Facts.{to_z-of_z, to_z_pos}
use Rattle.integers.proofs.Omega.{zarith, abs! }
use Rattle.bar_line.specs.Line.{nearest_thousandth, thousandths}
use Rattle.bar_line.proofs.thousandths.Goals as goal

-- the quotient is small
most : (n d : ℤ) → pos 0 <ℤ d → nat_abs n ≤ 2 ^ 13 * nat_abs d → nearest_thousandth (nat_abs n) (nat_abs d) < 2 ^ 24
most n d some less =
    let some' : 0 < nat_abs d = omega (zarith, some, abs! d) in
    (div-lt_iff_lt-mul {k = 2 * nat_abs d} (omega (arith, some'))).1 (omega (arith, some', less))

of_positive : (n d : ℤ) → pos 0 ≤ℤ n → thousandths n d ≡ pos (nearest_thousandth (nat_abs n) (nat_abs d))
of_positive (pos n) d h = refl
of_positive (negsuc n) d h = absurd (omega zarith)

pub returns-else-n-lt0 : goal.returns-else-n-lt0
returns-else-n-lt0 c =
    let n = c.args.n in
    let d = c.args.d in
    let size = rw (to_z-of_z {w = w64} c.ranges.n) at c.unsigned_abs-size.ensures.value in
    let parts = rw (to_z-of_z {w = w64} c.ranges.d) at c.unsigned_abs-parts.ensures.value in
    let small = most n d c.requires.0 c.requires.2 in
    let above = rw (to_z-of_z {w = w64} c.ranges.n) at c.if-n-lt0.false in
    let fits : nearest_thousandth (nat_abs n) (nat_abs d) < 2 ^ 63 = omega (arith, small) in
    rw (size, parts, to_z_pos w64 fits) (sym (of_positive n d (omega (zarith, above))), record { within = omega (arith, small) })
