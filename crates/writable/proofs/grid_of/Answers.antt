-- `writable::grid_of` meets its contract: a number of cells is not negative.
use Rattle.std.proofs.Common.{◌≡◌, true, ℤ, pos, nat_abs, w32, w64, to_z, of_z, Fits, FitsSigned, lit<, rules, arith}
use mir.Facts.{to_z-of_z}
use lib.Dec.{T}
use lib.ListN.{get_or}
use lib.Signed.{non_neg}
use Rattle.std.specs.Int.Signed.{yes_non_neg}
use Rattle.integers.proofs.Omega.{zarith, -! }
use Rattle.layout.specs.Layout.{field, less_one, header_fields}
use Rattle.layout_write.specs.Writing.{can_hold}
use Rattle.layout_write.proofs.Held.{held_at, less-one-held}
use Rattle.writable.proofs.Grids.{side}
use Rattle.writable.proofs.grid_of.Goals as goal

cells : (z : ℤ) → FitsSigned w32 z → can_hold (field less_one 6) z ≡ true → T (non_neg (to_z w32 (of_z w32 z))) × Fits w64 (nat_abs (to_z w32 (of_z w32 z)))
cells z f h =
    let u = less-one-held 6 z h in
    rw (to_z-of_z {w = w32} f) (yes_non_neg (omega (zarith, u.some, -! z (pos 1))), record { fits = omega (arith, (side z h).most) })

pub overflow_cast-result-2 : goal.overflow_cast-result-2
overflow_cast-result-2 c = cells (get_or c.args.numbers.now 2 (pos 0)) (search rules) (held_at (header_fields c.args.layout.shape) c.args.numbers.now c.requires 2 (lit< tt))

pub overflow_cast-result-3 : goal.overflow_cast-result-3
overflow_cast-result-3 c = cells (get_or c.args.numbers.now 3 (pos 0)) (search rules) (held_at (header_fields c.args.layout.shape) c.args.numbers.now c.requires 3 (lit< tt))
