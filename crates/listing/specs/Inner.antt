-- What the code of a piece keeps. The contracts of private functions cite it; no public promise does.
use Rattle.std.specs.Prelude.{List, ◌≡◌, ℕ, ◌+◌, ◌-◌, ◌≤◌, length}
use Rattle.text.specs.Text.{spliced}
use Rattle.listing.specs.Listing.{lines_from, lines_in}

-- The cell at which the lines stop that fit into so much room.
abbrev pub stop_at : (ℕ → List ℕ) → (room from count : ℕ) → ℕ
stop_at line room from count = (lines_in line room from count).next

-- From cell `from` and byte `at` of the buffer to cell `next` and byte `behind`: the lines between are put, and the piece's end is the same.
pub record Advances (line : ℕ → List ℕ) (count from at : ℕ) (old : List ℕ) (next behind : ℕ) (new : List ℕ) : Type 0 where
  pub forth : from ≤ next
  pub room : behind ≤ length old
  pub bytes : new ≡ spliced old at (lines_from line from (next - from))
  pub moved : behind ≡ at + length (lines_from line from (next - from))
  pub stop : stop_at line (length old - behind) next (count - next) ≡ stop_at line (length old - at) from (count - from)
