-- `text::put_byte`: one byte that is set is that byte put. Assumes nothing.
use Rattle.std.proofs.Common.{refl, rules}
use Rattle.text.proofs.Texts.{spliced-byte}
use Rattle.text.proofs.put_byte.Goals as goal

pub returns : goal.returns
returns c = record { bytes = spliced-byte _ _ _ (search rules); next = refl }
