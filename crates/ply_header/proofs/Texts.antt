-- Texts, character by character.
--     more       what a list holds from a place on: a character, and the others
--     Reading    what the loop keeps: the text that is left, at the place that was come to
--     cut        the end of the file
--     other      another character
--     next       the same character
--     whole      the end of the text
-- Assumes nothing.
use Rattle.std.specs.Prelude.{Some, None}
use mathlib.Core.List.{List, ◌∷◌}
use mathlib.Core.Path.{◌≡◌, sym, ◌∙◌}
use Prim.Native.Nat.{ℕ, ◌+◌, ◌<◌, ◌≤◌}
use native.Mathlib.Numerals.{add-one}
use borrow.Author.Tests.{lt-ltb, le-ltb, eq-eqb, ne_eqb}
use lib.ListN.{length, get_or, drop, drop_of_length-le}
use lib.Seq.{drop-cons}
use Rattle.ply_header.specs.Text.{behind}

pub more : (l : List ℕ) (i : ℕ) → i < length l → drop i l ≡ get_or l i 0 ∷ drop (i + 1) l
more l i h = rw (add-one i) (drop-cons l i 0 h)

pub record Reading (s text : List ℕ) (at j i : ℕ) : Type 0 where
  pub same : behind s at text ≡ behind s j (drop i text)

module _ {s text : List ℕ} {at j i : ℕ} (r : Reading s text at j i) where
  pub cut : i < length text → length s ≤ j → None ≡ behind s at text
  unfolding behind
  cut h k = sym (r.same ∙ rw (more text i h, le-ltb j (length s) k))

  pub other : i < length text → j < length s → (get_or s j 0 ≡ get_or text i 0 → ⊥) → None ≡ behind s at text
  unfolding behind
  other h k n = sym (r.same ∙ rw (more text i h, lt-ltb j (length s) k, ne_eqb (get_or s j 0) (get_or text i 0) n))

  pub next : i < length text → j < length s → get_or s j 0 ≡ get_or text i 0 → Reading s text at (j + 1) (i + 1)
  unfolding behind
  next h k e = record { same = r.same ∙ rw (more text i h, lt-ltb j (length s) k, eq-eqb (get_or s j 0) (get_or text i 0) e) }

  pub whole : length text ≤ i → Some j ≡ behind s at text
  unfolding behind
  whole h = sym (r.same ∙ rw (drop_of_length-le text h))
