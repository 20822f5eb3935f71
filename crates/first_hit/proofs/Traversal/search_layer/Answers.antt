-- `first_hit::Traversal::search_layer`: rows that are not given, and rows that the leg comes to no earlier than it enters the cell kept, have no cell before that.
use mathlib.Core.Bool.{true, and-eq-true_iff}
use mathlib.Core.Path.{◌≡◌, sym, ap, ◌∙◌, subst}
use Prim.Native.Nat.{ℕ, ◌+◌, ◌≤◌}
use native.Mathlib.Omega.{arith}
use Rattle.grid.specs.declared.CellRange.{CellRange}
use Rattle.grid.specs.Range.{in_range}
use Rattle.runs.specs.Run.{Narrows}
use Rattle.runs.proofs.Narrow.{in-range, range-in}
use Rattle.legs.specs.Slab.{row_holds}
use Rattle.entry.specs.declared.Fraction.{Fraction}
use Rattle.entry.specs.Entry.{earlier, later}
use Rattle.entry.specs.Inner.{entry_by, row_entry, entry_at}
use Rattle.touch.proofs.Scan.{In}
use Rattle.first_hit.specs.declared.Traversal.{Traversal}
use Rattle.first_hit.specs.Inner.{sought, entered, FirstBelow, FirstBefore}
use Rattle.first_hit.proofs.Places.{Sought, late-row, pass-rows, layer-end}
use Rattle.first_hit.proofs.Traversal.search_layer.Goals as goal
use Rattle.first_hit.proofs.Traversal.search_layer.Goals.{then-is_earlier, else-is_earlier}

module _ (t : Traversal) {k : ℕ} {rows : CellRange} (n : Narrows t.block.y (row_holds t.slabs k) rows) where
  -- the rows of the block that lie in the slab are those that are given
  given : {i m : ℕ} → Sought t i m k → In rows m
  given {m = m} w =
      in-range rows m
      (n.exact m ∙ (and-eq-true_iff (in_range t.block.y m) (row_holds t.slabs k m)).1 (range-in t.block.y m w.y.0 w.y.1, w.row))

pub loop-j-init : goal.loop-j-init
loop-j-init c =
    let p = c.requires in
    let t = c.args.self.now in
    let n = p.1 in
    pass-rows t c.args.k 0 c.args.rows.first (omega arith) (omega (arith, n.ordered, n.to, t.inside.y)) (λ i m _ u w _. omega (arith, u, (given t n w).0)) p.3

pub loop-j-preserved : goal.loop-j-preserved
loop-j-preserved c =
    let p = c.requires in
    let t = c.args.self.now in
    let k = c.args.k in
    let j = c.loop-j.j in
    let v = c.loop-j.invariant in
    let is : c.later_by-at.result ≡ row_entry t.entries j k = c.later_by-at.ensures ∙ ap (λ (f : Fraction). later f (entry_by t.entries.y j)) p.2 in
    elim c.if-is_earlier.branch [
      | then-is_earlier w ↦ subst (FirstBefore t (j + 1) k) (sym w.best-is) w.search_row-best.ensures
      | else-is_earlier w ↦
          subst (FirstBefore t (j + 1) k) (sym w.best-is)
          (pass-rows t k j (j + 1) (omega arith) (omega (arith, c.loop-j-test.true, p.1.to, t.inside.y))
          (λ i m l h _ q.
          let same : m ≡ j = omega (arith, l, h) in
          late-row t v i j k (ap (λ (f : Fraction). earlier f c.loop-j.best.at) (sym is) ∙ sym c.is_earlier.ensures ∙ w.if-is_earlier.false)
          (subst (λ (m : ℕ). earlier (entry_at t.entries i m k) c.loop-j.best.at ≡ true) same q)) v)
    ]

pub returns : goal.returns
returns c =
    let t = c.args.self.now in
    let k = c.args.k in
    let n = c.requires.1 in
    let end : c.loop-j.j ≤ t.g.ny = omega (arith, n.ordered, n.to, t.inside.y) in
    subst (λ (m : ℕ). FirstBelow (sought t) (entered t) m c.loop-j.best) (layer-end t k)
    (pass-rows t k c.loop-j.j t.g.ny end (omega arith) (λ i m l _ w _. omega (arith, l, (given t n w).1, c.loop-j-test.false)) c.loop-j.invariant)
