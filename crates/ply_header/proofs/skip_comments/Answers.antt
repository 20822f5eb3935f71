-- `ply_header::skip_comments`: each turn is a comment.
use Rattle.std.proofs.Common.{sym, arith}
use Rattle.ply_header.proofs.Comments.{passed, begins, word, over}
use Rattle.ply_header.proofs.skip_comments.Goals as goal

pub loop-j-init : goal.loop-j-init
loop-j-init c = begins _ _

pub line_end-i-requires : goal.line_end-i-requires
line_end-i-requires c = (passed c.args.s.now c.loop-j.i _ (sym c.in-Some.ensures)).1

pub loop-j-smaller : goal.loop-j-smaller
loop-j-smaller c =
    let p = passed c.args.s.now c.loop-j.i _ (sym c.in-Some.ensures) in
    omega (arith, c.line_end-i.ensures.bound)

pub loop-j-preserved : goal.loop-j-preserved
loop-j-preserved c = word c.loop-j.invariant (sym c.in-Some.ensures) c.line_end-i.ensures.same

pub returns : goal.returns
returns c = over c.loop-j.invariant (sym c.in_default.ensures)
