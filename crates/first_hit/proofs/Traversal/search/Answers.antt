-- `first_hit::Traversal::search`: layers below the lowest cell's, and layers that the leg comes to no earlier than it enters the cell kept, have no cell before that.
use mathlib.Core.Path.{◌≡◌, sym, ap, ◌∙◌, subst}
use Prim.Native.Nat.{ℕ, ◌+◌, ◌/◌, ◌%◌, ◌≤◌}
use native.Mathlib.Omega.{arith}
use Rattle.grid.specs.declared.Grid.{Grid}
use Rattle.grid.specs.Grid.{cell_count}
use Rattle.grid.specs.Cells.{x_of_cell, y_of_cell, z_of_cell}
use Rattle.entry.specs.declared.Fraction.{Fraction}
use Rattle.entry.specs.Entry.{earlier}
use Rattle.entry.specs.Inner.{entry_at}
use Rattle.entry.proofs.Boxes.{at-positive}
use Rattle.first_hit.specs.declared.Best.{Best}
use Rattle.first_hit.specs.Inner.{sought, entered, FirstBelow, FirstBefore}
use Rattle.first_hit.proofs.Nearest.{first_found}
use Rattle.first_hit.proofs.Passing.{begin, whole}
use Rattle.first_hit.proofs.Places.{sought-parts, below-count, late-layer, pass-rows, layer-end, layer-low, pass-layers}
use Rattle.first_hit.proofs.Traversal.search.Goals as goal
use Rattle.first_hit.proofs.Traversal.search.Goals.{then-is_earlier, else-is_earlier}

-- the place of the lowest cell, by the code's divisions
j-is : (g : Grid) (n : ℕ) {q j : ℕ} → j ≡ q % g.ny → q ≡ n / g.nx → j ≡ y_of_cell g.nx g.ny n
j-is g n is row = is ∙ ap (λ (r : ℕ). r % g.ny) row

k-is : (g : Grid) (n : ℕ) {q k : ℕ} → k ≡ q / g.ny → q ≡ n / g.nx → k ≡ z_of_cell g.nx g.ny n
k-is g n is row = is ∙ ap (λ (r : ℕ). r / g.ny) row

pub loop-k-init : goal.loop-k-init
loop-k-init c =
    let p = c.requires in
    let a = c.args in
    let t = a.self.now in
    let w = (sought-parts t a.n p.1).1 in
    let j = j-is t.g a.n c.remainder-near.ensures c.quotient-row.ensures in
    let k = k-is t.g a.n c.quotient-low.ensures c.quotient-row.ensures in (
      omega (arith, j, w.y.0),
      omega (arith, j, w.y.1),
      begin p.1 p.2 (rw k (layer-low t a.n)) (c.at.ensures ∙ (λ i. entry_at t.entries (c.remainder.ensures i) (j i) (k i))),
    )

pub loop-k-preserved : goal.loop-k-preserved
loop-k-preserved c =
    let t = c.args.self.now in
    let k = c.loop-k.k in
    let v = c.loop-k.invariant in
    let Next : Best → Type 0 = FirstBefore t 0 (k + 1) in (
      elim c.if-is_earlier.branch [
        | then-is_earlier w ↦ subst (λ (n : ℕ). t.block.y.first ≤ n) (sym w.near-is) w.rows-rows.ensures.from
        | else-is_earlier w ↦ subst (λ (n : ℕ). t.block.y.first ≤ n) (sym w.near-is) v.0
      ],
      elim c.if-is_earlier.branch [
        | then-is_earlier w ↦ subst (λ (n : ℕ). n ≤ t.block.y.end) (sym w.near-is) (let r = w.rows-rows.ensures in omega (arith, r.ordered, r.to))
        | else-is_earlier w ↦ subst (λ (n : ℕ). n ≤ t.block.y.end) (sym w.near-is) v.1
      ],
      elim c.if-is_earlier.branch [
        | then-is_earlier w ↦ subst Next (sym w.best-is) w.search_layer-best.ensures
        | else-is_earlier w ↦
            subst Next (sym w.best-is)
            (subst (λ (m : ℕ). FirstBelow (sought t) (entered t) m c.loop-k.best) (layer-end t k)
            (pass-rows t k 0 t.g.ny (omega arith) (omega arith)
            (λ i m _ _ _ q.
            late-layer t v.2 i m k (ap (λ (f : Fraction). earlier f c.loop-k.best.at) (sym c.to_layer-at.ensures) ∙ sym c.is_earlier.ensures ∙ w.if-is_earlier.false) q) v.2))
      ],
    )

pub returns : goal.returns
returns c =
    let t = c.args.self.now in
    let g = t.g in
    let n = c.loop-k.best.cell in
    let low = (sought-parts t c.args.n c.requires.1).1 in
    let k = k-is g c.args.n c.quotient-low.ensures c.quotient-row.ensures in
    let all = pass-layers t c.loop-k.k (omega (arith, c.loop-k-test.false)) (omega (arith, k, low.z.1, t.inside.z)) c.loop-k.invariant.2 in
    first_found (sought t) (entered t) (λ n. at-positive t.bounded (x_of_cell g.nx n) (y_of_cell g.nx g.ny n) (z_of_cell g.nx g.ny n)) (cell_count g) n
    (whole (below-count t n all.has) all)
