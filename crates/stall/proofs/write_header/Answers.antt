-- `stall::write_header`: the nine numbers are at the start of `out`, or it is as it came.
use Rattle.std.proofs.Common.{List, ◌++◌, ℤ, length, drop, refl, ap, ◌∙◌, arith}
use borrow.Author.Tests.{le-leb, lt-leb}
use Rattle.stall.proofs.write_header.Goals as goal

pub returns-then-out-lt9 : goal.returns-then-out-lt9
returns-then-out-lt9 c = rw (lt-leb 9 (length c.args.out.now) (omega (arith, c.if-out-lt9.true))) (c.pack.ensures, refl)

pub returns : goal.returns
returns c =
    let o = c.args.out.now in
    rw (le-leb 9 (length o) (omega (arith, c.if-out-lt9.false)))
    (c.pack-2.ensures, c.copy.ensures ∙ ap (λ (ns : List ℤ). ns ++ drop (length ns) o) c.header_numbers.ensures)
