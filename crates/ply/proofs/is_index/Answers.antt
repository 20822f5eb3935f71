-- `ply::is_index`: an index from 2 ^ 31 on is negative.
use Rattle.std.proofs.Common.{ℕ, ap, ◌∙◌, rules}
use Rattle.bits.specs.Field.{twos_complement}
use Rattle.ply.specs.Body.{is_index}
use Rattle.ply.proofs.Faces.{low-index, high-index}
use Rattle.ply.proofs.is_index.Goals as goal

pub returns-then-index-lt2147483648 : goal.returns-then-index-lt2147483648
returns-then-index-lt2147483648 c =
    low-index _ _ c.if-index-lt2147483648.true ∙ ap (λ (w : ℕ). is_index c.args.n (twos_complement 32 w)) c.word-index.ensures

pub returns : goal.returns
returns c =
    high-index c.args.n c.word-index.result (search rules) c.if-index-lt2147483648.false
    ∙ ap (λ (w : ℕ). is_index c.args.n (twos_complement 32 w)) c.word-index.ensures
