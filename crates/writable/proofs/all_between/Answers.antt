-- `writable::all_between` meets its contract: number by number, all of them.
use Rattle.std.proofs.Common.{refl, sym, ap, ap₂, ◌∙◌, ◌&&◌, ℤ, pos, w32, w64, rules}
use native.Mathlib.Numerals.{add-one}
use lib.ListN.{get_or}
use mir.Facts.{to_z-of_z}
use Rattle.integers.proofs.Machine.{back}
use Rattle.layout_write.specs.Writing.{between}
use Rattle.writable.specs.Fits.{all_below}
use Rattle.writable.proofs.all_between.Invariants.{test}
use Rattle.writable.proofs.all_between.Goals as goal

pub loop-x-init : goal.loop-x-init
unfolding all_below
loop-x-init c = refl

pub loop-x-preserved : goal.loop-x-preserved
unfolding all_below
loop-x-preserved c =
    let read = back w64 c.from.type_inv ∙ c.from.ensures ∙ to_z-of_z {w = w32} {z = get_or c.args.numbers.now c.loop-x.x-index (pos 0)} (search rules) in
    let found = c.between-good.ensures ∙ ap (λ (z : ℤ). between c.args.bounds.low c.args.bounds.high z) read in
    ap₂ ◌&&◌ c.loop-x.invariant found ∙ sym (ap (all_below (test c.args.bounds.low c.args.bounds.high c.args.numbers.now)) (add-one c.loop-x.x-index))
