-- What is enough: nothing else is asked.
--     form-enough   a file of the form with at most 4,095 faces and the right length is taken
--     face-enough   a face of three corners, each one of the vertices, is good
--     same-corner   so is one that has a vertex three times
-- Assumes nothing.
use Rattle.std.specs.Prelude.{Some}
use mathlib.Core.Bool.{true}
use mathlib.Core.List.{List, ◌∷◌}
use mathlib.Core.Path.{◌≡◌, refl}
use Prim.Native.Nat.{ℕ, ◌+◌, ◌≤◌}
use borrow.Author.Tests.{le-leb, eq-eqb}
use lib.ListN.{length, get_or, replicate}
use Rattle.ply_header.specs.declared.Form.{Form}
use Rattle.ply_header.specs.Header.{header}
use Rattle.ply.specs.Body.{face_place, taken, index_at, is_index, good_face}

pub form-enough : (s : List ℕ) (f : Form) → header s ≡ Some f → f.faces ≤ 4095 → face_place s f f.faces ≡ length s → taken s ≡ Some f
unfolding taken
form-enough s f e few end = rw (e, le-leb f.faces 4095 few, eq-eqb _ _ end)

pub face-enough : (s : List ℕ) (n at : ℕ) → get_or s at 0 ≡ 3
    → is_index n (index_at s (at + 1)) ≡ true → is_index n (index_at s (at + 5)) ≡ true → is_index n (index_at s (at + 9)) ≡ true → good_face s n at ≡ true
unfolding good_face
face-enough s n at three a b c = rw (three, a, b, c)

pub same-corner : good_face (3 ∷ replicate 12 0x00) 1 0 ≡ true
unfolding is_index good_face
same-corner = refl
