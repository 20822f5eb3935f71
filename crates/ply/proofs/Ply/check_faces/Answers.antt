-- `Ply::check_faces`: each turn asks of one face.
use Rattle.std.proofs.Common.{◌≡◌, Bool, List, ℕ, ◌<◌, ◌≤◌, length, sym, ap, ◌∙◌, subst, add-one, arith}
use Rattle.refusal.proofs.Asking.{each_none}
use Rattle.ply_header.specs.declared.Form.{Form}
use Rattle.std.specs.Prelude.{Some}
use Rattle.ply.specs.Body.{taken, behind_face, face_place, good_face, face_question}
use Rattle.ply.proofs.Taken.{sized, face-in, next-face}
use Rattle.ply.proofs.Faces.{good-count}
use Rattle.ply.proofs.Asking.{Asking, ask-more, ask-no}
use Rattle.ply.proofs.Ply.check_faces.Goals as goal

module _ (s : List ℕ) (f : Form) {at k : ℕ} (a : Asking (face_question s f) (face_place s f) f.faces at k) where
  -- the face of a turn lies in the file
  inside : taken s ≡ Some f → k < f.faces → (at < length s) × (behind_face s at ≤ length s)
  inside t h = subst (λ (p : ℕ). (p < length s) × (behind_face s p ≤ length s)) (sym a.is) (face-in (sized s f t) h)

  -- what was asked of it
  asked_of : {b : Bool} → b ≡ good_face s f.vertices at → good_face s f.vertices (face_place s f k) ≡ b
  asked_of e = sym (e ∙ ap (good_face s f.vertices) a.is)

pub loop-k-init : goal.loop-k-init
loop-k-init c = record { low = omega arith; is = c.faces_start-at.ensures; yes = each_none _ }

pub is_good-requires : goal.is_good-requires
is_good-requires c = inside _ _ c.loop-k.invariant c.args.self.now.whole c.loop-k-test.true

pub returns-then-not-is_good : goal.returns-then-not-is_good
returns-then-not-is_good c =
    ask-no c.loop-k.invariant c.loop-k-test.true (asked_of _ _ c.loop-k.invariant c.is_good.ensures ∙ c.if-not-is_good.true)

-- a face that is good has 13 bytes
pub overflow_add-at : goal.overflow_add-at
overflow_add-at c =
    omega (
      arith,
      good-count c.args.self.now.file.now c.args.self.now.form.vertices c.loop-k.at (sym c.is_good.ensures ∙ c.if-not-is_good.false),
      (inside _ _ c.loop-k.invariant c.args.self.now.whole c.loop-k-test.true).1,
    )

pub loop-k-preserved : goal.loop-k-preserved
loop-k-preserved c =
    ask-more c.loop-k.invariant c.loop-k-test.true (asked_of _ _ c.loop-k.invariant c.is_good.ensures ∙ c.if-not-is_good.false)
    (good-count c.args.self.now.file.now c.args.self.now.form.vertices c.loop-k.at (sym c.is_good.ensures ∙ c.if-not-is_good.false)
    ∙ ap (behind_face c.args.self.now.file.now) c.loop-k.invariant.is
    ∙ sym (next-face c.args.self.now.file.now c.args.self.now.form c.loop-k.k)
    ∙ ap (face_place c.args.self.now.file.now c.args.self.now.form) (sym (add-one c.loop-k.k)))
