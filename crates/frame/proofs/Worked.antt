-- Worked examples, by computation on the definitions: each question of a file at its border, in turn. Each file breaks one limit less than the one before, so that
-- the order is seen too. Assumes nothing.
use mathlib.Core.List.{List, [], ◌∷◌, ◌++◌}
use mathlib.Core.Path.{◌≡◌, refl}
use Prim.Native.Nat.{ℕ}
use lib.IntN.{pos, neg_ℤ}
use lib.ListN.{take}
use Rattle.bits.specs.Field.{bit_at, field_at, signed_at}
use Rattle.geometry.specs.declared.Point.{Point}
use Rattle.geometry.specs.Geometry.{point, triangle}
use Rattle.std.specs.Prelude.{Option, Some, None, Result, Ok}
use Rattle.refusal.specs.declared.Limit.{Limit}
use Rattle.refusal.specs.Limit.{gives, refused, said}
use Rattle.refusal.specs.Questions.{answered, of_each}
use Rattle.layout.specs.declared.Header.{Header}
use Rattle.layout.specs.Values.{header_in, reserved_in, record_in, kind_in}
use Rattle.layout.specs.declared.Record.{Record}
use Rattle.frame.specs.declared.Reading.{Reading}
use Rattle.frame.specs.declared.Frame.{Frame}
use Rattle.frame.specs.Frame.{said_check}
use Rattle.frame.specs.File.{record_of}
use Rattle.frame.specs.Questions.{checked, reading}

-- ---- questions 1 to 5: version 2, edge 0, a last bit of 1, a grid beyond 8,191, no record though one is counted
abbrev all-broken : List ℕ
all-broken = 0x20 ∷ 0x41 ∷ 0x04 ∷ 0x01 ∷ 0xff ∷ 0xf7 ∷ 0xff ∷ 0xdf ∷ 0xff ∷ 0x00 ∷ 0x10 ∷ 0x01 ∷ []

pub short-header : checked (take 11 all-broken) ≡ refused 1 0
unfolding bit_at field_at signed_at header_in reserved_in answered checked
short-header = refl

pub version-2 : checked all-broken ≡ refused 2 0
unfolding bit_at field_at signed_at header_in reserved_in answered checked
version-2 = refl

pub edge-0 : checked (0x10 ∷ 0x41 ∷ 0x04 ∷ 0x01 ∷ 0xff ∷ 0xf7 ∷ 0xff ∷ 0xdf ∷ 0xff ∷ 0x00 ∷ 0x10 ∷ 0x01 ∷ []) ≡ refused 3 0
unfolding bit_at field_at signed_at header_in reserved_in answered checked
edge-0 = refl

pub last_bit : checked (0x10 ∷ 0x41 ∷ 0x04 ∷ 0x29 ∷ 0xff ∷ 0xf7 ∷ 0xff ∷ 0xdf ∷ 0xff ∷ 0x00 ∷ 0x10 ∷ 0x01 ∷ []) ≡ refused 4 0
unfolding bit_at field_at signed_at header_in reserved_in answered checked
last_bit = refl

pub beyond : checked (0x10 ∷ 0x41 ∷ 0x04 ∷ 0x29 ∷ 0xff ∷ 0xf7 ∷ 0xff ∷ 0xdf ∷ 0xff ∷ 0x00 ∷ 0x10 ∷ 0x00 ∷ []) ≡ refused 5 0
unfolding bit_at field_at signed_at header_in reserved_in answered checked
beyond = refl

-- a grid that ends at 8,191 on x and z, and at 8,128 on y, is accepted; one millimetre more on x or z, or the origin 0 on y with 33 cells, is not
pub at-8191 : checked (0x10 ∷ 0x3f ∷ 0x7f ∷ 0xfd ∷ 0xf0 ∷ 0x08 ∷ 0x00 ∷ 0x00 ∷ 0x1f ∷ 0x00 ∷ 0x00 ∷ 0x00 ∷ [])
    ≡ gives (record { version = 1; grid = record { nx = 1; ny = 64; nz = 32; edge = pos 255; origin = point (pos 7936) (neg_ℤ (pos 8192)) (pos 31) }; count = 0 })
unfolding bit_at field_at signed_at header_in reserved_in answered of_each checked
at-8191 = refl

pub beyond-x : checked (0x10 ∷ 0x3f ∷ 0x7f ∷ 0xfd ∷ 0xf0 ∷ 0x18 ∷ 0x00 ∷ 0x00 ∷ 0x1f ∷ 0x00 ∷ 0x00 ∷ 0x00 ∷ []) ≡ refused 5 0
unfolding bit_at field_at signed_at header_in reserved_in answered checked
beyond-x = refl

pub beyond-y : checked (0x10 ∷ 0x20 ∷ 0x7f ∷ 0xfd ∷ 0xf0 ∷ 0x00 ∷ 0x00 ∷ 0x00 ∷ 0x1f ∷ 0x00 ∷ 0x00 ∷ 0x00 ∷ []) ≡ refused 5 0
unfolding bit_at field_at signed_at header_in reserved_in answered checked
beyond-y = refl

pub beyond-z : checked (0x10 ∷ 0x3f ∷ 0x7f ∷ 0xfd ∷ 0xf0 ∷ 0x08 ∷ 0x00 ∷ 0x00 ∷ 0x20 ∷ 0x00 ∷ 0x00 ∷ 0x00 ∷ []) ≡ refused 5 0
unfolding bit_at field_at signed_at header_in reserved_in answered checked
beyond-z = refl

-- ---- question 6, of the printed file of row a, with kind 3
abbrev one-header : List ℕ
one-header = 0x10 ∷ 0x41 ∷ 0x04 ∷ 0x28 ∷ 0x00 ∷ 0x00 ∷ 0x00 ∷ 0x00 ∷ 0x00 ∷ 0x00 ∷ 0x10 ∷ 0x00 ∷ []

-- a record of this first byte, and else that of row a
abbrev a-record : (first : ℕ) → List ℕ
a-record first = first ∷ 0x05 ∷ 0x00 ∷ 0x14 ∷ 0x00 ∷ 0x50 ∷ 0x01 ∷ 0x40 ∷ 0x05 ∷ 0x00 ∷ 0x14 ∷ 0x00 ∷ 0x50 ∷ 0x01 ∷ 0x40 ∷ 0x05 ∷ []

pub byte-missing : checked (take 27 (one-header ++ a-record 0xc0)) ≡ refused 6 0
unfolding bit_at field_at signed_at header_in reserved_in answered checked
byte-missing = refl

pub byte_left : checked (one-header ++ a-record 0xc0 ++ (0x00 ∷ [])) ≡ refused 6 0
unfolding bit_at field_at signed_at header_in reserved_in answered checked
byte_left = refl

-- ---- question 7, of three records: the first kind is 2, the others 3
abbrev three : (second : ℕ) → List ℕ
three second = (0x10 ∷ 0x41 ∷ 0x04 ∷ 0x28 ∷ 0x00 ∷ 0x00 ∷ 0x00 ∷ 0x00 ∷ 0x00 ∷ 0x00 ∷ 0x30 ∷ 0x00 ∷ []) ++ a-record 0x80 ++ a-record second ++ a-record 0xc0

pub lowest-record : checked (three 0xc0) ≡ refused 7 1
unfolding bit_at field_at signed_at header_in reserved_in kind_in answered of_each checked
lowest-record = refl

pub last-record : checked (three 0x40) ≡ refused 7 2
unfolding bit_at field_at signed_at header_in reserved_in kind_in answered of_each checked
last-record = refl

-- ---- a plain reading: the record asked for, no record from the count on, and a refusal
abbrev values : Header
values = record { version = 1; grid = record { nx = 2; ny = 2; nz = 2; edge = pos 10; origin = point (pos 0) (pos 0) (pos 0) }; count = 1 }

abbrev reads : Header → Option Record → Reading
reads h r = record { header = h; found = r }

abbrev five : Point
five = point (pos 5) (pos 5) (pos 5)

pub first-record : reading (one-header ++ a-record 0x40) 0 ≡ gives (reads values (Some (record_of (one-header ++ a-record 0x40) 0)))
unfolding bit_at field_at signed_at header_in reserved_in record_in kind_in answered of_each reading
first-record = refl

-- of two records with the kinds 2 and 1 the second is read
pub second-record : reading ((0x10 ∷ 0x41 ∷ 0x04 ∷ 0x28 ∷ 0x00 ∷ 0x00 ∷ 0x00 ∷ 0x00 ∷ 0x00 ∷ 0x00 ∷ 0x20 ∷ 0x00 ∷ []) ++ a-record 0x80 ++ a-record 0x40) 1
    ≡ gives (reads (record { version = 1; grid = values.grid; count = 2 }) (Some (record { kind = 1; triangle = triangle five five five })))
unfolding bit_at field_at signed_at header_in reserved_in record_in kind_in answered of_each reading
second-record = refl

pub no_second : reading (one-header ++ a-record 0x40) 1 ≡ gives (reads values None)
unfolding bit_at field_at signed_at header_in reserved_in record_in kind_in answered of_each reading
no_second = refl

pub read-refused : reading (three 0xc0) 0 ≡ refused 7 1
unfolding bit_at field_at signed_at header_in reserved_in record_in kind_in answered of_each reading
read-refused = refl

-- ---- what the answers' cases say
pub said-check : (f : Frame) → said_check (Ok f) ≡ gives f.header
said-check f = refl

abbrev read : Reading → Result Reading Limit
read v = Ok v

pub said-reading : (said (read (reads values (Some (record_of (three 0x40) 1)))) ∷ said (read (reads values None)) ∷ [])
    ≡ (gives (reads values (Some (record_of (three 0x40) 1))) ∷ gives (reads values None) ∷ [])
said-reading = refl
