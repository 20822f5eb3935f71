-- What each step of a fill answers and leaves, whatever the map held; and a whole fill in steps. Definitions only.
use Rattle.std.specs.Prelude.{Bool, ◌&&◌, ◌||◌, List, [], ◌∷◌, ◌++◌, ℕ, ◌+◌, ◌-◌, ◌*◌, min, leb, ltb, length, drop, replicate}
use Rattle.refusal.specs.Limit.{Answer, unless_refused}
use Rattle.refusal.specs.Questions.{answered}
use Rattle.grid.specs.Grid.{cell_count}
use Rattle.map.specs.Map.{map_length, is_filled, count_below, map_of}
use Rattle.frame.specs.File.{header_of}
use Rattle.fill.specs.Fill.{grid_of, any_of, fill_questions}
use Rattle.fill.specs.Part.{filled_from}

-- ---- begin
-- It gives the number of records.
unfoldable pub beginning : (file map : List ℕ) → Answer ℕ
beginning s m = answered (fill_questions s (length m)) (header_of s).count

-- The map of the file's grid is emptied, with the unused bits of its last byte. The bytes behind it are what they were.
unfoldable pub begun_bytes : (file map : List ℕ) → List ℕ
begun_bytes s m =
    let len = map_length (cell_count (grid_of s)) in
    unless_refused (beginning s m) (replicate len 0 ++ drop len m) m

-- ---- some records
-- How many of `count` records from number `first` on there are, of `total`.
abbrev pub present : (total first count : ℕ) → ℕ
present total first count = min count (total - first)

-- It gives the number of records that joined.
unfoldable pub joining : (file map : List ℕ) → (first count : ℕ) → Answer ℕ
joining s m first count = answered (fill_questions s (length m)) (present (header_of s).count first count)

-- Bytes, with those of the first cells filled that have the property, and every other bit as it was.
unfoldable pub with_cells : (ℕ → Bool) → (cells : ℕ) → List ℕ → List ℕ
with_cells p cells m = map_of (λ n. is_filled m n || (ltb n cells && p n)) (8 * length m)

-- The cells that these records fill join the map.
unfoldable pub joined_bytes : (file map : List ℕ) → (first count : ℕ) → List ℕ
joined_bytes s m first count =
    unless_refused (joining s m first count) (with_cells (filled_from s first (present (header_of s).count first count)) (cell_count (grid_of s)) m) m

-- ---- end
-- It gives the number of filled cells of the file's grid.
unfoldable pub ending : (file map : List ℕ) → Answer ℕ
ending s m = answered (fill_questions s (length m)) (count_below (is_filled m) (cell_count (grid_of s)))

-- ---- a fill in steps
-- A range of records: the first one's number, and how many.
pub record Range : Type 0 where
  pub first : ℕ
  pub count : ℕ

-- The ranges in turn; and begin, then the ranges in turn.
unfoldable pub stepped_bytes : (file map : List ℕ) → List Range → List ℕ
stepped_bytes s m [] = m
stepped_bytes s m (r ∷ rs) = stepped_bytes s (joined_bytes s m r.first r.count) rs

abbrev pub in_steps : (file map : List ℕ) → List Range → List ℕ
in_steps s m = stepped_bytes s (begun_bytes s m)

-- Record i is in some range of the list.
abbrev pub is_covered : List Range → ℕ → Bool
is_covered rs i = any_of (λ r. leb r.first i && ltb i (r.first + r.count)) rs
