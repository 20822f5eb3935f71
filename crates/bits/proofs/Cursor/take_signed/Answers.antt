-- `bits::Cursor::take_signed`: the unsigned field, taken as two's complement.
use Rattle.std.proofs.Common.{ap, ◌∙◌}
use mir.Syntax.{w64}
use mir.Facts.{to_z-of_z}
use Rattle.bits.specs.Field.{twos_complement, signed_at}
use Rattle.bits.proofs.Fields.{field_lt}
use Rattle.bits.proofs.Cursor.take_signed.Goals as goal

pub sign_extend-requires : goal.sign_extend-requires
sign_extend-requires g c =
    let a = c.args in
    (c.requires.0, c.requires.1, rw c.take-field.ensures.value (field_lt (g.S.Source.bytes a.self.source) a.self.at a.width))

pub returns-clause-value : goal.returns-clause-value
unfolding signed_at
returns-clause-value g c =
    to_z-of_z {w = w64} (record { sfits = c.sign_extend.type_inv }) ∙ c.sign_extend.ensures ∙ ap (twos_complement c.args.width) c.take-field.ensures.value
