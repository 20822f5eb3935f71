-- Which values may be written into a frame file. Definitions only.
use Rattle.std.specs.Prelude.{Bool, true, ◌&&◌, List, ℕ, zero, suc, ◌*◌, ℤ, pos, take, drop}
use Rattle.std.specs.Int.Signed.{lt_z}
use Rattle.layout.specs.declared.Layout.{Layout}
use Rattle.layout.specs.Layout.{header_fields, record_fields}
use Rattle.layout.specs.Values.{number_at, header_from}
use Rattle.layout_write.specs.Writing.{can_hold_all}
use Rattle.frame.specs.Questions.{extent_fits}

-- May these be the numbers of a header? Each fits its field; the edge, number 4, is above 0; and the grid does not reach
-- beyond the farthest coordinate.
abbrev pub header_fits : Layout → List ℤ → Bool
header_fits l ns = can_hold_all (header_fields l) ns && (lt_z (pos 0) (number_at ns 4) && extent_fits l.farthest (header_from ns).grid)

-- May these be the numbers of a record? Each fits its field, and the kind is below 3.
abbrev pub triangle_fits : Layout → List ℤ → Bool
triangle_fits l ns = can_hold_all (record_fields l) ns && lt_z (number_at ns 0) (pos 3)

-- The ten numbers of triangle i, in a list of triangles.
abbrev pub triangle_numbers : List ℤ → ℕ → List ℤ
triangle_numbers zs i = take 10 (drop (i * 10) zs)

-- Has each number below n the property?
unfoldable pub all_below : (ℕ → Bool) → ℕ → Bool
all_below p zero = true
all_below p (suc n) = all_below p n && p n
