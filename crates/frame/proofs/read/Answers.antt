-- `frame::read` meets its contract: a plain reading asks what a check asks, and then looks at the record's number.
use Rattle.std.proofs.Common.{sym, ◌∙◌, lt-ltb, le-ltb}
use Rattle.refusal.proofs.Said.{said-err}
use Rattle.frame.proofs.Accepted.{reading-refused, reading-accepted}
use Rattle.frame.proofs.read.Goals as goal

pub returns-in_err-frame : goal.returns-in_err-frame
returns-in_err-frame c = said-err _ _ c.from_residual.ensures.1 ∙ sym (reading-refused c.args.file.now c.args.i (sym c.in_err-frame.ensures.said))

pub returns-then-i-header : goal.returns-then-i-header
returns-then-i-header c =
    let f = c.in_ok-frame in
    let s = f.ensures.same in
    rw (
      reading-accepted c.args.file.now c.args.i f.frame.header (sym f.ensures.said),
      c.header-header.ensures,
      c.one_record.ensures,
      s,
      lt-ltb c.args.i f.frame.header.count (rw c.header-header.ensures at c.if-i-header.true),
    )

pub returns-else-i-header : goal.returns-else-i-header
returns-else-i-header c =
    let f = c.in_ok-frame in
    rw (
      reading-accepted c.args.file.now c.args.i f.frame.header (sym f.ensures.said),
      c.header-header.ensures,
      le-ltb _ _ (rw c.header-header.ensures at c.if-i-header.false),
    )
