-- Ranges of cells. Definitions only.
use Rattle.std.specs.Prelude.{Bool, ◌&&◌, ℕ, leb, ltb}
use Rattle.grid.specs.declared.CellRange.{CellRange}

-- Cell i of an axis is in the range: from `first` on, and below `end`.
abbrev pub in_range : CellRange → ℕ → Bool
in_range r i = leb r.first i && ltb i r.end
