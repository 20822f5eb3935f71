-- What the call says and leaves, by what was asked.
--     asked-room                    of triangles that fit, the writer asks for the room alone
--     file-is                       and writes a record a face
--     no-grid, no-form, no, yes     each way out
-- Assumes nothing.
use Rattle.std.specs.Prelude.{Some, None}
use mathlib.Core.Bool.{true, false}
use mathlib.Core.List.{List, [], ◌∷◌, ◌++◌}
use mathlib.Core.Path.{◌≡◌, refl, sym, ap, ◌∙◌}
use Prim.Native.Nat.{ℕ, ◌≤◌}
use native.Mathlib.Omega.{arith}
use borrow.Author.Tests.{eq-eqb}
use lib.Dec.{leb}
use lib.IntN.{ℤ}
use lib.ListN.{length, drop}
use Rattle.refusal.specs.Limit.{Answer, gives, refused}
use Rattle.refusal.specs.Questions.{Question, ◌asks◌, answered}
use Rattle.refusal.specs.Inner.{Passing, passed, asked}
use Rattle.refusal.proofs.Asking.{through, and_then, both-passed, first-append, refuses, passes}
use Rattle.layout.specs.Layout.{version1, record_start}
use Rattle.layout_write.specs.Writing.{header_bytes, record_bytes}
use Rattle.frame_write.specs.declared.GridValues.{GridValues}
use Rattle.frame_write.specs.Write.{header_to_write, concat_below, triangle_count, records_bytes, write_questions, file_bytes}
use Rattle.frame_write.proofs.Asked.{write-refused, write-given}
use Rattle.frame_write.proofs.Pieces.{pieces-same}
use Rattle.ply_header.specs.declared.Form.{Form}
use Rattle.ply.specs.Body.{taken}
use Rattle.scan.specs.Scan.{triangles, ply_questions, scanned, grid_fits, writing_of, scan_leaves, scanning, scan_bytes}
use Rattle.scan.specs.Inner.{scan_questions, face_bytes}
use Rattle.scan.proofs.Triangles.{count-is, whole_is, numbers-are, all_fit, grid-any}

-- What is promised of an answer and of the bytes afterwards.
abbrev pub Promise : GridValues → List ℕ → (old : List ℕ) → Answer ℕ → (new : List ℕ) → Type 0
Promise g s old a new = (a ≡ scanning g s (length old)) × (new ≡ scan_bytes g s old)

module _ (g : GridValues) (s old : List ℕ) where
  pub no-grid : grid_fits g ≡ false → Promise g s old (refused 12 0) old
  unfolding scanning scan_bytes
  no-grid e = (rw e, rw e)

  module _ (fits : grid_fits g ≡ true) where
    -- by what the scanner's file gives
    by-file : {a : Answer (List ℤ)} {b : Answer ℕ} {new : List ℕ} → scanned s ≡ a → b ≡ writing_of g a (length old) → new ≡ scan_leaves g a old → Promise g s old b new
    unfolding scanning scan_bytes
    by-file e p q = (rw (fits, e) p, rw (fits, e) q)

    pub no-form : taken s ≡ None → Promise g s old (refused 13 0) old
    unfolding scanned
    no-form e = by-file {a = refused 13 0} (rw e) refl refl

    -- ---- a file whose header has the form
    module _ (f : Form) (form : taken s ≡ Some f) (few : f.faces ≤ 4095) where
      abbrev zs : List ℤ
      zs = triangles s f

      abbrev room : List Question
      room = (11 asks leb (record_start version1 f.faces) (length old)) ∷ []

      gives_all : {a : Answer (List ℤ)} → answered (ply_questions s f) zs ≡ a → scanned s ≡ a
      unfolding scanned
      gives_all e = rw form e

      pub asked-room : asked (write_questions version1 g zs (length old)) ≡ asked room
      asked-room =
          let n = count-is s f in
          through tt _ _ (rw n (grid-any g f.faces (omega arith) fits))
          ∙ through tt _ _ (eq-eqb _ _ (whole_is s f))
          ∙ through tt _ _ (rw n (all_fit s f))
          ∙ ap (λ (k : ℕ). asked ((11 asks leb (record_start version1 k) (length old)) ∷ [])) n

      pub file-is : file_bytes version1 g zs ++ drop (record_start version1 (triangle_count zs)) old
          ≡ (header_bytes version1 (header_to_write g f.faces) ++ concat_below (face_bytes s f) f.faces) ++ drop (record_start version1 f.faces) old
      file-is =
          ap (λ (n : ℕ). (header_bytes version1 (header_to_write g n) ++ records_bytes version1 zs n) ++ drop (record_start version1 n) old) (count-is s f)
          ∙ ap (λ (rest : List ℕ). (header_bytes version1 (header_to_write g f.faces) ++ rest) ++ drop (record_start version1 f.faces) old)
          (pieces-same _ _ f.faces (λ i h. ap (record_bytes version1) (numbers-are s f i h)))

      pub no : {n p : ℕ} → asked (scan_questions s f (length old)) ≡ refused n p → Promise g s old (refused n p) old
      no {n} {p} e = go (asked (ply_questions s f)) refl (sym (first-append tt (ply_questions s f) room) ∙ e)
        where
          go : (v : Passing) → asked (ply_questions s f) ≡ v → and_then v (asked room) ≡ refused n p → Promise g s old (refused n p) old
          go (gives u) h k =
              let w = write-refused g zs old (asked-room ∙ k) in
              by-file {a = gives zs} (gives_all (passes zs (ply_questions s f) h)) w.0 w.1
          go (refused m q) h k = by-file {a = refused n p} (gives_all (refuses zs (ply_questions s f) (h ∙ k))) refl refl

      pub yes : asked (scan_questions s f (length old)) ≡ passed
          → Promise g s old (gives (record_start version1 f.faces)) ((header_bytes version1 (header_to_write g f.faces) ++ concat_below (face_bytes s f) f.faces) ++ drop (record_start version1 f.faces) old)
      yes e =
          let both = both-passed (asked (ply_questions s f)) (asked room) (sym (first-append tt (ply_questions s f) room) ∙ e) in
          let w = write-given g zs old (asked-room ∙ both.1) in
          by-file {a = gives zs} (gives_all (passes zs (ply_questions s f) both.0))
          (ap (λ (n : ℕ). gives (record_start version1 n)) (sym (count-is s f)) ∙ w.0)
          (sym file-is ∙ w.1)
