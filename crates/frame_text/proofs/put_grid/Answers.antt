-- `frame_text::put_grid`: all numbers of the header but the first are put. Assumes nothing.
use Rattle.std.proofs.Common.{List, ℕ, ℤ, ◌++◌, subst, ◌≤◌, arith, length}
use lib.ListN.{take, drop}
use Rattle.text.specs.Text.{spaced, line_feed}
use Rattle.text.specs.Inner.{Puts}
use Rattle.text.proofs.Texts.{puts-more}
use Rattle.frame_text.proofs.put_grid.Goals as goal

pub returns : goal.returns
returns c =
    let room : 0 ≤ length c.args.out.now = omega arith in
    let line : List ℤ → List ℕ = λ ns. spaced (take 8 (drop 1 ns)) ++ line_feed in
    subst (λ (ns : List ℤ). Puts c.args.out.now 0 (line ns) c.put_byte.new.out c.put_byte.result) c.header_numbers-numbers.ensures
    (puts-more room c.put_numbers-behind.ensures.0 c.put_byte.ensures)
