-- What the functions compute with. Definitions only; no public promise cites them.
use Rattle.std.specs.Prelude.{Option, Some, None, Bool, true, false, List, ◌≡◌, ℕ}
use Rattle.geometry.specs.declared.Point.{Point}
use Rattle.geometry.specs.declared.Triangle.{Triangle}
use Rattle.overlap.specs.Rule.{overlaps_box}
use Rattle.box_test.specs.Inner.{boxes_hold}
use Rattle.frame.specs.File.{record_of}

-- The triangle of record i overlaps a box.
abbrev pub overlaps_record : List ℕ → (p d : Point) → ℕ → Bool
overlaps_record s p d i = overlaps_box (record_of s i).triangle p d

-- What is said of a triangle by its box: it lies beside the box; or the boxes meet, and it is handed on.
abbrev pub ByBox : Triangle → (p d : Point) → Option Triangle → Type 0
ByBox t p d None = boxes_hold t p d ≡ false
ByBox t p d (Some u) = (u ≡ t) × (boxes_hold t p d ≡ true)
