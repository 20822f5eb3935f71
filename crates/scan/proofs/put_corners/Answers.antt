-- `scan::put_corners`: corner by corner, each behind the one before.
use Rattle.std.proofs.Common.{◌≡◌, List, ℕ, ◌+◌, ◌*◌, ◌-◌, length, refl, ap, ◌∙◌, arith}
use borrow.Rule.Slice.PartMut.{put_mid}
use Rattle.frame_write.proofs.Pieces.{fill_none, fill_more, fill-all}
use Rattle.ply_header.specs.declared.Form.{Form}
use Rattle.scan.specs.Inner.{numbers_of, corner_numbers}
use Rattle.scan.proofs.put_corners.Goals as goal

long : (s : List ℕ) (f : Form) (at j : ℕ) → length (corner_numbers s f at j) ≡ 3
long s f at j = refl

pub loop-j-init : goal.loop-j-init
loop-j-init c = fill_none

pub loop-j-preserved : goal.loop-j-preserved
loop-j-preserved c =
    let first = 1 + 3 * c.loop-j.j in
    let same : first + 3 - first ≡ 3 = omega arith in
    let part : c.put_corner.new.part ≡ corner_numbers c.args.ply.now.file.now c.args.ply.now.form c.args.at c.loop-j.j = c.put_corner.ensures ∙ ap numbers_of c.corner_at-corner.ensures in
    fill_more (long c.args.ply.now.file.now c.args.ply.now.form c.args.at) (omega (arith, c.requires.1)) c.loop-j.invariant c.loop-j-test.true
    (λ i. put_mid first (same i) c.loop-j.numbers (part i))

pub returns : goal.returns
returns c = fill-all c.loop-j.invariant c.loop-j-test.false
