-- What the reader of a record asks. Definitions only; no public promise cites them.
use Rattle.std.specs.Prelude.{List, ℕ, ◌+◌, ◌<◌, ◌≤◌, length}
use Rattle.layout.specs.Layout.{version1, record_start}

-- The file is long enough for record i to begin in it.
pub record HasRecord (s : List ℕ) (i : ℕ) : Type 0 where
  pub number : i < 4096
  pub start : record_start version1 i ≤ length s

-- Record i and as many bytes behind it: another record stands there.
pub record Followed (s : List ℕ) (i : ℕ) : Type 0 where
  pub number : i < 4096
  pub room : record_start version1 i + 32 ≤ length s
