-- `ply_header::read_line`: comments are passed, then the text is read.
use Rattle.std.proofs.Common.{ℕ, ap, ◌∙◌}
use Rattle.ply_header.specs.Text.{behind, line}
use Rattle.ply_header.proofs.read_line.Goals as goal

pub returns : goal.returns
unfolding line
returns c = c.read_word.ensures ∙ ap (λ (i : ℕ). behind c.args.s.now i c.args.text.now) c.skip_comments.ensures
