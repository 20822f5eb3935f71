-- `ply_vertex::number`: the pattern of a float is that of a number.
use Rattle.std.proofs.Common.{ℕ, sym, ap, ◌∙◌}
use lib.Ieee.{binary32, binary64, of_bits, is_nan}
use Rattle.ply_header.specs.declared.Scalar.{Scalar}
use Rattle.ply_vertex.specs.Inner.{nan_at}
use Rattle.ply_vertex.proofs.Patterns.{not-nan}
use Rattle.ply_vertex.proofs.number.Goals as goal

pub float_from_bits-result : goal.float_from_bits-result
float_from_bits-result c =
    not-nan binary32 c.word.result
    (ap (λ (n : ℕ). is_nan (of_bits binary32 n)) c.word.ensures ∙ sym (ap (λ (u : Scalar). nan_at u c.args.s.now c.args.at) c.in-Float.is) ∙ c.requires.1)

pub float_from_bits-result-in-Double : goal.float_from_bits-result-in-Double
float_from_bits-result-in-Double c =
    not-nan binary64 c.long_word.result
    (ap (λ (n : ℕ). is_nan (of_bits binary64 n)) c.long_word.ensures ∙ sym (ap (λ (u : Scalar). nan_at u c.args.s.now c.args.at) c.in-Double.is) ∙ c.requires.1)
