-- The header as the code reads it: no count above a limit. Definitions only; no public promise of the finished product
-- cites them.
use Rattle.std.specs.Prelude.{cond, ◌&&◌, List, Option, Some, None, ℕ, leb}
use Rattle.ply_header.specs.declared.Form.{Form}
use Rattle.ply_header.specs.Text.{bytes, behind, comment}

-- The header, where its counts are at most n; else another form.
unfoldable pub roomy : (n : ℕ) → Option Form → Option Form
roomy n (Some f) = cond (leb f.vertices n && leb f.faces n) (Some f) None
roomy n None = None

-- The count, where it is at most n; else none.
unfoldable pub limited : (n : ℕ) → Option (ℕ × ℕ) → Option (ℕ × ℕ)
limited n (Some read) = cond (leb read.0 n) (Some read) None
limited n None = None

-- Where a comment line begins, the place behind the word `comment`.
unfoldable pub comment_word : (s : List ℕ) (at : ℕ) → Option ℕ
comment_word s at = cond (comment s at) (behind s at (bytes "comment")) None
