-- `listing::put_refusal`: the line is put where the output is long enough. Assumes nothing.
use borrow.Author.Tests.{lt-ltb, le-ltb}
use Rattle.std.proofs.Common.{refl, sym, subst, arith, length}
use Rattle.refusal.specs.declared.Refusal.{Refusal}
use Rattle.text.specs.Inner.{Puts}
use Rattle.text.specs.Lines.{refused_line, first_most}
use Rattle.text.proofs.Texts.{spliced-none}
use Rattle.listing.specs.Listing.{refusal_text}
use Rattle.listing.proofs.put_refusal.Goals as goal

pub returns-then-out-lt64 : goal.returns-then-out-lt64
unfolding refusal_text
returns-then-out-lt64 c =
    let out = c.args.out.now in
    rw (lt-ltb (length out) first_most c.if-out-lt64.true) (refl, sym (spliced-none out 0))

pub returns : goal.returns
unfolding refusal_text
returns c =
    let out = c.args.out.now in
    let p = subst (λ (r : Refusal). Puts out 0 (refused_line r.number r.place) c.put_refused.new.out c.put_refused.result) c.from-refusal.ensures c.put_refused.ensures in
    rw (le-ltb (length out) first_most c.if-out-lt64.false) (omega (arith, p.next), p.bytes)
