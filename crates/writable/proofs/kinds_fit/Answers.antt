-- `writable::kinds_fit` meets its contract: triangle by triangle, up to the first with another kind.
use Rattle.std.proofs.Common.{◌≡◌, ◌*◌, Bool, List, ℕ, ℤ, pos, refl, sym, ap, ◌∙◌, w32, w64, rules}
use lib.ListN.{get_or}
use mir.Facts.{to_z-of_z}
use Rattle.integers.proofs.Machine.{back}
use Rattle.layout_write.specs.Writing.{between}
use Rattle.writable.specs.Fits.{all_below}
use Rattle.writable.proofs.All.{all_more, all-no}
use Rattle.writable.proofs.kinds_fit.Invariants.{test}
use Rattle.writable.proofs.kinds_fit.Goals as goal

pub loop-i-init : goal.loop-i-init
unfolding all_below
loop-i-init c = refl

-- what the test of triangle i says
found : (zs : List ℤ) (i : ℕ) {r : Bool} {z : ℤ} → z ≡ get_or zs (i * 10) (pos 0) → r ≡ between (pos 0) (pos 2) z → r ≡ test zs i
found zs i e h = h ∙ ap (λ (z : ℤ). between (pos 0) (pos 2) z) e

pub returns-then-not-between : goal.returns-then-not-between
returns-then-not-between c =
    let read = back w64 c.from.type_inv ∙ c.from.ensures ∙ to_z-of_z {w = w32} {z = get_or c.args.triangles.now (c.loop-i.i * 10) (pos 0)} (search rules) in
    let e = found c.args.triangles.now c.loop-i.i read c.between.ensures in
    sym (all-no (test c.args.triangles.now) c.args.count c.loop-i.i c.loop-i-test.true (sym e ∙ c.if-not-between.true))

pub loop-i-preserved : goal.loop-i-preserved
loop-i-preserved c =
    let read = back w64 c.from.type_inv ∙ c.from.ensures ∙ to_z-of_z {w = w32} {z = get_or c.args.triangles.now (c.loop-i.i * 10) (pos 0)} (search rules) in
    let e = found c.args.triangles.now c.loop-i.i read c.between.ensures in
    all_more (test c.args.triangles.now) c.loop-i.i c.loop-i.invariant (sym e ∙ c.if-not-between.false)
