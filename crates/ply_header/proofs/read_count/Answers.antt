-- `ply_header::read_count`: the first character is a digit.
use Rattle.std.proofs.Common.{sym, ap, ◌∙◌}
use Rattle.ply_header.specs.Text.{digit}
use Rattle.ply_header.proofs.Counts.{digit-is, behind-end, no_digit, some-digit}
use Rattle.ply_header.proofs.read_count.Goals as goal

pub returns-in_err-get : goal.returns-in_err-get
returns-in_err-get c = c.from_residual.ensures ∙ behind-end c.args.s.now c.args.at c.in_err-get.ensures.lookup.3

pub returns-then-is_ascii_digit : goal.returns-then-is_ascii_digit
returns-then-is_ascii_digit c =
    c.read_digits.ensures
    ∙ some-digit c.args.s.now c.args.at (ap digit (sym (c.in_ok-get.ensures.lookup.3.1 0)) ∙ sym (digit-is _) ∙ sym c.is_ascii_digit.ensures.value ∙ c.if-is_ascii_digit.true)

pub returns-else-is_ascii_digit : goal.returns-else-is_ascii_digit
returns-else-is_ascii_digit c =
    no_digit c.args.s.now c.args.at (ap digit (sym (c.in_ok-get.ensures.lookup.3.1 0)) ∙ sym (digit-is _) ∙ sym c.is_ascii_digit.ensures.value ∙ c.if-is_ascii_digit.false)
