-- `ply_vertex::is_nan`: type by type, which patterns are not a number.
use Rattle.std.proofs.Common.{ℕ, sym, ap, ◌∙◌}
use lib.Ieee.{binary32, binary64, of_bits, is_nan}
use Rattle.ply_header.specs.declared.Scalar.{Scalar}
use Rattle.ply_vertex.specs.Inner.{nan_at}
use Rattle.ply_vertex.proofs.Patterns.{nan-of}
use Rattle.ply_vertex.proofs.is_nan.Goals as goal

pub returns-in-Float : goal.returns-in-Float
returns-in-Float c =
    nan-of binary32 c.word.result
    ∙ ap (λ (n : ℕ). is_nan (of_bits binary32 n)) c.word.ensures
    ∙ sym (ap (λ (u : Scalar). nan_at u c.args.s.now c.args.at) c.in-Float.is)

pub returns-in-Double : goal.returns-in-Double
returns-in-Double c =
    nan-of binary64 c.long_word.result
    ∙ ap (λ (n : ℕ). is_nan (of_bits binary64 n)) c.long_word.ensures
    ∙ sym (ap (λ (u : Scalar). nan_at u c.args.s.now c.args.at) c.in-Double.is)
