-- `columns::fill_run`: the cells passed are drawn.
use mathlib.Core.Path.{refl, sym, ap, ◌∙◌, subst}
use Prim.Native.Nat.{◌+◌, ◌*◌, ◌<◌}
use native.Mathlib.Omega.{arith}
use lib.ListN.{length}
use Rattle.map.proofs.Filled.{length-with}
use Rattle.columns.specs.Draw.{number_of, Draws, one_column, in_run, range}
use Rattle.columns.proofs.Drawing.{empty-run, draws-cell}
use Rattle.columns.proofs.fill_run.Goals as goal

pub loop-k-init : goal.loop-k-init
loop-k-init c = let a = c.args in (refl, empty-run a.g a.i a.j a.run.first a.map.now)

pub loop-k-preserved : goal.loop-k-preserved
loop-k-preserved c =
    let a = c.args in
    let r = c.requires in
    let k = c.loop-k.k in
    let i = c.loop-k.invariant in
    let n = number_of a.g a.i a.j k in
    let in-map : n < 8 * length a.map.now = omega (arith, r.numbers.within a.i a.j k r.i-in r.j-in (omega (arith, r.end)), r.room) in
    let room : n < 8 * length c.loop-k.map = rw i.0 in-map in (
      ap length c.fill_cell.ensures ∙ length-with c.loop-k.map n ∙ i.0,
      subst (λ m. Draws a.g (one_column a.i a.j) (in_run (range a.run.first (k + 1))) a.map.now m) (sym c.fill_cell.ensures)
          (draws-cell a.g r.numbers a.i a.j a.run.first k r.i-in r.j-in (omega (arith, r.end)) (omega arith) a.map.now c.loop-k.map room i.1),
    )
