-- A scanner's file that passed all questions.
--     few, passed-room       not too many faces, and room for them
--     faced, inside, next-good   the corners of each face can be read, and the next face is behind it
-- Assumes nothing.
use mathlib.Core.Bool.{true}
use mathlib.Core.List.{List, [], ◌∷◌}
use mathlib.Core.Path.{◌≡◌, sym, ap, ◌∙◌}
use Prim.Native.Nat.{ℕ, zero, suc, ◌+◌, ◌*◌, ◌<◌, ◌≤◌}
use native.Mathlib.Numerals.{add-one}
use native.Mathlib.Omega.{arith}
use borrow.Author.Tests.{leb-true}
use lib.Dec.{leb}
use lib.ListN.{length}
use Rattle.refusal.specs.Questions.{Question, ◌asks◌, of_each}
use Rattle.refusal.specs.Inner.{passed, asked}
use Rattle.refusal.proofs.Asking.{both-passed, first-append, passed-head, each-passed}
use Rattle.layout.specs.Layout.{version1, record_start}
use Rattle.ply_header.specs.declared.Form.{Form}
use Rattle.ply.specs.Body.{face_place, index_at, is_index, good_face, vertex_question, face_question}
use Rattle.ply.specs.Inner.{Cornered}
use Rattle.ply.proofs.Taken.{sized, vertices-in, face-in, next-face}
use Rattle.ply.proofs.Faces.{corners, good-count}
use Rattle.scan.specs.Scan.{ply_questions}
use Rattle.scan.specs.Inner.{Accepted, Faced}

module _ {s : List ℕ} {f : Form} {room : ℕ} (a : Accepted s f room) where
  abbrev last : List Question
  last = (11 asks leb (record_start version1 f.faces) room) ∷ []

  pub few : f.faces ≤ 4095
  few = (sized s f a.form).faces

  pub passed-room : record_start version1 f.faces ≤ room
  passed-room =
      let both = both-passed (asked (ply_questions s f)) (asked last) (sym (first-append tt (ply_questions s f) last) ∙ a.yes) in
      leb-true _ _ (passed-head tt _ _ both.1).0

  -- what was asked of the vertices and of the faces
  each : (asked (of_each (vertex_question s f) f.vertices) ≡ passed) × (asked (of_each (face_question s f) f.faces) ≡ passed)
  each =
      let both = both-passed (asked (ply_questions s f)) (asked last) (sym (first-append tt (ply_questions s f) last) ∙ a.yes) in
      both-passed (asked (of_each (vertex_question s f) f.vertices)) (asked (of_each (face_question s f) f.faces))
      (sym (first-append tt (of_each (vertex_question s f) f.vertices) (of_each (face_question s f) f.faces)) ∙ both.0)

  module _ (k : ℕ) (h : k < f.faces) where
    abbrev at : ℕ
    at = face_place s f k

    good : good_face s f.vertices at ≡ true
    good = each-passed (face_question s f) f.faces each.1 k h

    -- a face that is good has 13 bytes, and they are in the file
    pub next-good : at + 13 ≡ face_place s f (k + 1)
    next-good = good-count s f.vertices at good ∙ sym (next-face s f k) ∙ ap (face_place s f) (sym (add-one k))

    pub inside : at + 13 ≤ length s
    inside = omega (arith, (face-in (sized s f a.form) h).1, good-count s f.vertices at good)

    pub faced : Faced s f at
    faced = record { corner = go }
      where
        one : (p : ℕ) → p + 4 ≤ length s → is_index f.vertices (index_at s p) ≡ true → Cornered s f p
        one p room e = record { vertices = vertices-in (sized s f a.form); places = each-passed (vertex_question s f) f.vertices each.0; room = room; index = e }

        moved : {p q : ℕ} → p ≡ q → is_index f.vertices (index_at s p) ≡ true → is_index f.vertices (index_at s q) ≡ true
        moved e i = sym (ap (λ (p : ℕ). is_index f.vertices (index_at s p)) e) ∙ i

        go : (j : ℕ) → j < 3 → Cornered s f (at + 1 + 4 * j)
        go zero l = one (at + 1 + 4 * 0) (omega (arith, inside)) (moved (omega arith) (corners s f.vertices at good).first)
        go (suc zero) l = one (at + 1 + 4 * 1) (omega (arith, inside)) (moved (omega arith) (corners s f.vertices at good).second)
        go (suc (suc zero)) l = one (at + 1 + 4 * 2) (omega (arith, inside)) (moved (omega arith) (corners s f.vertices at good).third)
        go (suc (suc (suc j))) l = absurd (omega arith)
