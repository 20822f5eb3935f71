-- `bits::Cursor::take`: the field lies inside the word of the four bytes from the cursor's on.
use Rattle.std.proofs.Common.{arith}
use Rattle.bits.proofs.Fields.{field-of-word, one_shl}
use Rattle.bits.proofs.Cursor.take.Goals as goal

pub returns-clause-value : goal.returns-clause-value
returns-clause-value g c =
    let a = c.args in
    rw (one_shl 32 a.width (omega arith), c.word-word.ensures) (field-of-word (g.S.Source.bytes a.self.source) a.self.at a.width c.requires.1)
