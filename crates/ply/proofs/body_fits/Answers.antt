-- `ply::body_fits`: the vertices have room, and the faces behind them end at the end.
use Rattle.std.proofs.Common.{ℕ, eqb, length, ap, ◌∙◌}
use Rattle.ply.specs.Body.{face_from, face_place}
use Rattle.ply.proofs.Taken.{before-body, few, vertex-place}
use Rattle.ply.proofs.body_fits.Goals as goal

pub returns-then-s-f : goal.returns-then-s-f
returns-then-s-f c = before-body c.args.s.now c.args.f c.if-s-f.true

pub returns-then-s-f-2 : goal.returns-then-s-f-2
returns-then-s-f-2 c = few c.args.s.now c.args.f c.size-bytes.ensures.0 c.size-bytes.ensures.1 c.if-s-f.false c.if-s-f-2.true

pub returns : goal.returns
unfolding face_place
returns c =
    let a = c.args in
    c.faces_fit.ensures ∙ ap (λ (p : ℕ). eqb (face_from a.s.now p a.f.faces) (length a.s.now)) (vertex-place a.f a.f.vertices c.size-bytes.ensures.0)
