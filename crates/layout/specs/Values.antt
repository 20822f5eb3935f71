-- The values of a header and of a record, from the numbers of their fields. Definitions only.
use Rattle.std.specs.Prelude.{List, ℕ, ◌+◌, ℤ, pos, nat_abs, drop, get_or}
use Rattle.geometry.specs.declared.Point.{Point}
use Rattle.geometry.specs.Geometry.{point, triangle}
use Rattle.layout.specs.declared.Header.{Header}
use Rattle.layout.specs.declared.Record.{Record}
use Rattle.layout.specs.declared.Layout.{Layout}
use Rattle.layout.specs.Layout.{header_fields, record_fields, record_start, split}

-- Number i of a list; a natural number there; and a point from number i on.
abbrev pub number_at : List ℤ → ℕ → ℤ
number_at ns i = get_or ns i (pos 0)

abbrev pub natural_at : List ℤ → ℕ → ℕ
natural_at ns i = nat_abs (number_at ns i)

abbrev pub point_from : List ℤ → ℕ → Point
point_from ns i = point (number_at ns i) (number_at ns (i + 1)) (number_at ns (i + 2))

-- The header's values, from its numbers in order; and a record's.
abbrev pub header_from : List ℤ → Header
header_from ns = record {
  version = natural_at ns 0;
  grid = record { nx = natural_at ns 1; ny = natural_at ns 2; nz = natural_at ns 3; edge = number_at ns 4; origin = point_from ns 5 };
  count = natural_at ns 8;
}

abbrev pub record_from : List ℤ → Record
record_from ns = record { kind = natural_at ns 0; triangle = triangle (point_from ns 1) (point_from ns 4) (point_from ns 7) }

-- ---- of bytes
-- The header's values, of a file's bytes; and the header's last bits, which are to be zero.
unfoldable pub header_in : Layout → List ℕ → Header
header_in l s = header_from (split (header_fields l) s 0)

unfoldable pub reserved_in : Layout → List ℕ → ℕ
reserved_in l s = natural_at (split (header_fields l) s 0) 9

-- The bytes of a file from record i on; a record's values, of the bytes from it on; and its kind.
abbrev pub from_record : Layout → List ℕ → ℕ → List ℕ
from_record l s i = drop (record_start l i) s

unfoldable pub record_in : Layout → List ℕ → Record
record_in l s = record_from (split (record_fields l) s 0)

unfoldable pub kind_in : Layout → List ℕ → ℕ
kind_in l s = natural_at (split (record_fields l) s 0) 0
