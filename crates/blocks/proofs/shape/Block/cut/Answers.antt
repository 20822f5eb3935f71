-- `blocks::Block::cut`: the longer side is cut, which has two cells.
use Rattle.std.proofs.Common.{arith}
use mathlib.Core.Bool.{and-or_distrib_left, and-or_distrib_right}
use Rattle.blocks.proofs.Cuts.{cut_range, long-u, long-v}
use Rattle.blocks.proofs.shape.Block.cut.Goals as goal

pub returns-then-v1-v0 : goal.returns-then-v1-v0
returns-then-v1-v0 c =
    let b = c.args.self in
    let h = cut_range b.u0 b.u1 c.middle-m.result c.middle-m.ensures (long-u b c.requires c.if-v1-v0.true) b.most_u in
    record {
      low_part = record { inside = record { u = record { some = h.low-some; most = omega (arith, h.high-some) }; v = record { some = b.some_v; most = omega arith } }; less = omega (arith, h.low-less) };
      high_part = record { inside = record { u = record { some = h.high-some; most = omega arith }; v = record { some = b.some_v; most = omega arith } }; less = omega (arith, h.high-less) };
      both = λ i j. rw (h.both i, and-or_distrib_right);
    }

pub returns-else-v1-v0 : goal.returns-else-v1-v0
returns-else-v1-v0 c =
    let b = c.args.self in
    let h = cut_range b.v0 b.v1 c.middle-m-else-v1-v0.result c.middle-m-else-v1-v0.ensures (long-v b c.requires (omega (arith, c.if-v1-v0.false))) b.most_v in
    record {
      low_part = record { inside = record { u = record { some = b.some_u; most = omega arith }; v = record { some = h.low-some; most = omega (arith, h.high-some) } }; less = omega (arith, h.low-less) };
      high_part = record { inside = record { u = record { some = b.some_u; most = omega arith }; v = record { some = h.high-some; most = omega arith } }; less = omega (arith, h.high-less) };
      both = λ i j. rw (h.both j, and-or_distrib_left);
    }
