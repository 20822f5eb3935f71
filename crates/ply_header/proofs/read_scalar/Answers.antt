-- `ply_header::read_scalar`: the scalar types in turn.
use Rattle.std.proofs.Common.{sym}
use Rattle.ply_header.specs.Header.{scalar}
use Rattle.ply_header.proofs.read_scalar.Goals as goal

pub returns-in-Some : goal.returns-in-Some
unfolding scalar
returns-in-Some c = rw (sym c.in-Some.ensures)

pub returns-in-Some-read_word : goal.returns-in-Some-read_word
unfolding scalar
returns-in-Some-read_word c = rw (sym c.in_default.ensures, sym c.in-Some-read_word.ensures)

pub returns-in-Some-read_word-2 : goal.returns-in-Some-read_word-2
unfolding scalar
returns-in-Some-read_word-2 c = rw (sym c.in_default.ensures, sym c.in_default-read_word.ensures, sym c.in-Some-read_word-2.ensures)

pub returns : goal.returns
unfolding scalar
returns c = rw (sym c.in_default.ensures, sym c.in_default-read_word.ensures, sym c.in_default-read_word-2.ensures)
