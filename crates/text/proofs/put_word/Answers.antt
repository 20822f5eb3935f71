-- `text::put_word`: the part that is written over is the word. Assumes nothing.
use Rattle.std.proofs.Common.{refl, ap, ◌∙◌, ◌+◌, ◌-◌, arith, length}
use borrow.Rule.Slice.PartMut.{put_mid}
use Rattle.text.proofs.Texts.{spliced-part}
use Rattle.text.proofs.put_word.Goals as goal

pub returns : goal.returns
returns c =
    let a = c.args in
    let k = a.at + length a.word.now - a.at in
    record { bytes = ap (put_mid a.at k a.out.now) c.copy_from_slice.ensures.after ∙ spliced-part a.out.now a.at a.word.now k (omega arith); next = refl }
