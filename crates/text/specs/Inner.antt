-- What putting a text answers. Definitions only; no public promise cites them.
use Rattle.std.specs.Prelude.{List, ◌≡◌, ℕ, ◌+◌, length}
use Rattle.text.specs.Text.{spliced}

-- A text that was put at a place, and the place behind it.
pub record Puts (s : List ℕ) (at : ℕ) (t new : List ℕ) (behind : ℕ) : Type 0 where
  pub bytes : new ≡ spliced s at t
  pub next : behind ≡ at + length t
