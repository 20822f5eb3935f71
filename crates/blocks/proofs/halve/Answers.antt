-- `blocks::halve`. The cells that are filled, or wanted in a pending block, are always the same; the pending blocks grow lighter; and the
-- block at place p of the list wants at most 12 − p halvings, so that the list has room.
use Rattle.std.proofs.Common.{◌≡◌, ℕ, ◌+◌, ◌<◌, ◌≤◌, Bool, List, ◌∷◌, length, sym, ap, ◌∙◌, subst, arith}
use Rattle.pending.specs.Pending.{Progress, Each, load, put_if}
use Rattle.pending.proofs.Laws.{taken, length-put, each_halves, halved, lighter, halves-lighter}
use Rattle.columns.specs.declared.ready.Columns.{Columns}
use Rattle.columns.specs.Column.{cell_passes}
use Rattle.columns.proofs.Drawing.{drawn-or}
use Rattle.blocks.specs.declared.shape.Block.{Block}
use Rattle.blocks.specs.Block.{columns_of, depth_of, BlockIn, SmallerPart, Halved, kept_by}
use Rattle.blocks.proofs.Cuts.{wider}
use Rattle.blocks.proofs.Far.{ruled_out}
use Rattle.blocks.proofs.halve.Invariants.{wanted, Waits}
use Rattle.blocks.proofs.halve.Goals as goal

-- the block b is taken off the list, and `rest` is left
module _ (s : Columns) {b : Block} {all rest : List Block} (is : all ≡ b ∷ rest) (waiting : Each (Waits s.g) all) where
  waits : Each (Waits s.g) (b ∷ rest)
  waits = subst (Each (Waits s.g)) is waiting

  room : length rest < 13
  room = omega (arith, waits.0.1)

  less : (bs : List Block) → load depth_of bs < load depth_of (b ∷ rest) → load depth_of bs < load depth_of all
  less bs h = subst (λ (l : List Block). load depth_of bs < load depth_of l) (sym is) h

  -- it is cut in two, and the halves that are kept take its place
  module _ {low high : Block} (two : Halved b low high) (lower upper : Bool) where
    abbrev halves : List Block
    halves = put_if lower low (put_if upper high rest)

    room-more : length (put_if upper high rest) < 13
    room-more = omega (arith, waits.0.1, two.low_part.less, length-put upper high rest)

    inside : {p : Block} → SmallerPart b p → BlockIn s.g.nu s.g.nv p
    inside part = let h = waits.0.0 in wider h.u.most h.v.most part.inside

    entered : {p : Block} → SmallerPart b p → (place : ℕ) → place ≤ length rest + 1 → Waits s.g place p
    entered part place h = (inside part, omega (arith, part.less, waits.0.1))

    waiting-halves : Each (Waits s.g) halves
    waiting-halves =
        each_halves (Waits s.g) lower upper low high rest waits.1 (λ e. entered two.high_part (length rest) (omega arith)) (λ e. entered two.low_part)

    lighter-halves : load depth_of halves < load depth_of all
    lighter-halves = less halves (halves-lighter depth_of b low high lower upper rest two.low_part.less two.high_part.less)

    progress-halves : {whole : Block} {old map : List ℕ} → lower ≡ kept_by s.forms.now low → upper ≡ kept_by s.forms.now high → Progress (wanted s) whole old all map
        → Progress (wanted s) whole old halves map
    progress-halves {whole} {old} {map} l u p =
        let f = s.forms.now in
        halved (wanted s) whole old (subst (λ (bs : List Block). Progress (wanted s) whole old bs map) is p)
        (λ n. sym (drawn-or s.g (columns_of low) (columns_of high) (columns_of b) (cell_passes f s.w) (λ i j. sym (two.both i j)) n))
        (λ e. ruled_out s.g f s.w low (sym l ∙ e)) (λ e. ruled_out s.g f s.w high (sym u ∙ e))

pub loop-b-smaller-then-is_small : goal.loop-b-smaller-then-is_small
loop-b-smaller-then-is_small c =
    let is = taken c.loop-b.pending c.in-Some.ensures.taken c.pop.ensures.rest in
    less c.args.all.now is c.loop-b.invariant.0 c.pop.new.self (lighter depth_of c.in-Some.b c.pop.new.self)

pub put_if-requires : goal.put_if-requires
put_if-requires c =
    let is = taken c.loop-b.pending c.in-Some.ensures.taken c.pop.ensures.rest in
    room c.args.all.now is c.loop-b.invariant.0

pub put_if-requires-else-is_small : goal.put_if-requires-else-is_small
put_if-requires-else-is_small c =
    let is = taken c.loop-b.pending c.in-Some.ensures.taken c.pop.ensures.rest in
    rw c.put_if.ensures (room-more c.args.all.now is c.loop-b.invariant.0 c.cut.ensures c.kept-else-is_small.result c.kept.result)

pub loop-b-smaller : goal.loop-b-smaller
loop-b-smaller c =
    let is = taken c.loop-b.pending c.in-Some.ensures.taken c.pop.ensures.rest in
    let put = c.put_if-else-is_small.ensures ∙ ap (put_if c.kept-else-is_small.result c.cut.result.0) c.put_if.ensures in
    subst (λ (bs : List Block). load depth_of bs < load depth_of c.loop-b.pending) (sym put)
    (lighter-halves c.args.all.now is c.loop-b.invariant.0 c.cut.ensures c.kept-else-is_small.result c.kept.result)

pub loop-b-preserved : goal.loop-b-preserved
loop-b-preserved c =
    let a = c.args in
    let s = a.all.now in
    let i = c.loop-b.invariant in
    let lower = c.kept-else-is_small.result in
    let upper = c.kept.result in
    let is = taken c.loop-b.pending c.in-Some.ensures.taken c.pop.ensures.rest in
    let put = c.put_if-else-is_small.ensures ∙ ap (put_if lower c.cut.result.0) c.put_if.ensures in (
      subst (Each (Waits s.g)) (sym put) (waiting-halves s is i.0 c.cut.ensures lower upper),
      subst (λ (bs : List Block). Progress (wanted s) a.whole a.map.now bs c.loop-b.map) (sym put)
          (progress-halves s is i.0 c.cut.ensures lower upper c.kept-else-is_small.ensures c.kept.ensures i.1),
      i.2,
      i.3,
    )
