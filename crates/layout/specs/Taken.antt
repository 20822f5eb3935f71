-- What the functions of the reader ask and answer. Definitions only.
use Rattle.std.specs.Prelude.{List, ◌≡◌, ℕ, ◌+◌, ◌^◌, ◌<◌}
use Rattle.bits.specs.Field.{signed_at}
use Rattle.geometry.specs.declared.Point.{Point}
use Rattle.geometry.specs.Geometry.{point}
use Rattle.grid.specs.Usable.{GridWithin}
use Rattle.layout.specs.declared.Header.{Header}
use Rattle.layout.specs.declared.Layout.{Layout}
use Rattle.layout.specs.declared.HeaderFields.{HeaderFields}
use Rattle.layout.specs.Values.{header_in, reserved_in}

-- x, y and z from bit p on, signed, w bits each.
abbrev pub point_in : List ℕ → (p w : ℕ) → Point
point_in s p w = point (signed_at s p w) (signed_at s (p + w) w) (signed_at s (p + w + w) w)

-- What reading a header answers: its values, and its last bits.
pub record ReadHeader (l : Layout) (s : List ℕ) (r : HeaderFields) : Type 0 where
  pub header : r.header ≡ header_in l s
  pub reserved : r.reserved ≡ reserved_in l s

-- What holds of every header that a layout gives, whatever the bytes.
pub record BoundedHeader (h : Header) : Type 0 where
  pub grid : GridWithin (2 ^ 24) (2 ^ 25) h.grid
  pub count : h.count < 4096
