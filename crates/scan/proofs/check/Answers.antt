-- `scan::check`: the questions in turn, up to the first "no".
use Rattle.std.proofs.Common.{◌≡◌, List, [], ◌∷◌, ◌++◌, ℕ, leb, refl, sym, ap, ap₂, ◌∙◌, arith}
use borrow.Author.Tests.{lt-leb, le-leb}
use Rattle.refusal.specs.Questions.{Question, ◌asks◌, answered, of_each}
use Rattle.refusal.specs.Inner.{Passing, asked}
use Rattle.refusal.proofs.Said.{said-err}
use Rattle.refusal.proofs.Asking.{and_then, first-append}
use Rattle.layout.specs.Layout.{version1, record_start}
use Rattle.ply_header.specs.declared.Form.{Form}
use Rattle.ply.specs.Body.{vertex_question, face_question}
use Rattle.ply.proofs.Taken.{sized}
use Rattle.scan.specs.Inner.{scan_questions}
use Rattle.scan.proofs.check.Goals as goal

-- three lists of questions, one behind the other
in-turn : (a b c : List Question) {v w : Passing} → v ≡ asked a → w ≡ asked b → and_then (and_then v w) (asked c) ≡ asked ((a ++ b) ++ c)
in-turn a b c e h = ap (λ (u : Passing). and_then u (asked c)) (ap₂ and_then e h ∙ sym (first-append tt a b)) ∙ sym (first-append tt (a ++ b) c)

-- the questions of the vertices, of the faces and of the room
module _ (s : List ℕ) (f : Form) (n : ℕ) where
  abbrev vertices : List Question
  vertices = of_each (vertex_question s f) f.vertices

  abbrev faces : List Question
  faces = of_each (face_question s f) f.faces

  abbrev room : List Question
  room = (11 asks leb (record_start version1 f.faces) n) ∷ []

  three : {v w : Passing} → v ≡ asked vertices → w ≡ asked faces → and_then (and_then v w) (asked room) ≡ asked (scan_questions s f n)
  three = in-turn vertices faces room

pub returns-in_err-check_vertices : goal.returns-in_err-check_vertices
returns-in_err-check_vertices c =
    let p = c.args.ply.now in
    said-err _ _ c.from_residual.ensures.1 ∙ three p.file.now p.form c.args.room c.in_err-check_vertices.ensures refl

pub returns-in_err-check_faces : goal.returns-in_err-check_faces
returns-in_err-check_faces c =
    let p = c.args.ply.now in
    said-err _ _ c.from_residual-in_err-check_faces.ensures.1
    ∙ three p.file.now p.form c.args.room c.in_ok-check_vertices.ensures c.in_err-check_faces.ensures

pub record_start-requires : goal.record_start-requires
record_start-requires c = rw c.form.ensures (omega (arith, (sized _ _ c.args.ply.now.whole).faces))

pub returns-then-room-record_start : goal.returns-then-room-record_start
unfolding answered
returns-then-room-record_start c =
    let p = c.args.ply.now in
    let size : c.record_start.result ≡ record_start version1 p.form.faces = c.record_start.ensures ∙ (λ i. record_start (c.version_1.ensures i) (c.form.ensures i).faces) in
    rw (lt-leb (record_start version1 p.form.faces) c.args.room (omega (arith, c.if-room-record_start.true, size))) refl
    ∙ three p.file.now p.form c.args.room c.in_ok-check_vertices.ensures c.in_ok-check_faces.ensures

pub returns : goal.returns
unfolding answered
returns c =
    let p = c.args.ply.now in
    let size : c.record_start.result ≡ record_start version1 p.form.faces = c.record_start.ensures ∙ (λ i. record_start (c.version_1.ensures i) (c.form.ensures i).faces) in
    rw (le-leb (record_start version1 p.form.faces) c.args.room (omega (arith, c.if-room-record_start.false, size))) refl
    ∙ three p.file.now p.form c.args.room c.in_ok-check_vertices.ensures c.in_ok-check_faces.ensures
