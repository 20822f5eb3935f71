-- The values of a frame file, as a writer takes them; and what writing and reading have to do with each other. Definitions only.
use Rattle.std.specs.Prelude.{List, ◌++◌, ◌≡◌, ℕ, ◌<◌, ◌≤◌, ℤ, pos, length, get_or, take, drop}
use Rattle.refusal.specs.Limit.{gives}
use Rattle.refusal.specs.Questions.{answered}
use Rattle.layout.specs.declared.Header.{Header}
use Rattle.layout.specs.declared.Layout.{Layout}
use Rattle.layout.specs.Layout.{version1}
use Rattle.layout.specs.Values.{header_in, record_in, from_record}
use Rattle.frame.specs.File.{header_of}
use Rattle.frame.specs.Questions.{questions_by, checked}
use Rattle.numbers.specs.Numbers.{record_numbers}
use Rattle.frame_write.specs.declared.GridValues.{GridValues}
use Rattle.frame_write.specs.Write.{concat_below, writing, written_bytes}

-- The grid's values that a header has.
abbrev pub grid_values_of : Header → GridValues
grid_values_of h =
    let g = h.grid in
    record { nx = pos g.nx; ny = pos g.ny; nz = pos g.nz; edge = g.edge; x = g.origin.x; y = g.origin.y; z = g.origin.z }

-- The ten numbers of each of the first n records of a file, one record behind the other.
abbrev pub records_numbers : Layout → List ℕ → (n : ℕ) → List ℤ
records_numbers l s n = concat_below (λ i. record_numbers (record_in l (from_record l s i))) n

-- Read by this layout, the bytes s are accepted, and they have these grid values and these triangles, all of them, in order.
pub record Reads (l : Layout) (g : GridValues) (zs : List ℤ) (s : List ℕ) : Type 0 where
  pub accepted : answered (questions_by l (header_in l s) s) (header_in l s) ≡ gives (header_in l s)
  pub grid : grid_values_of (header_in l s) ≡ g
  pub numbers : records_numbers l s (header_in l s).count ≡ zs

-- ---- the two claims
-- Reading a written file yields the values given: the n bytes that a writing put at the start of the output are accepted, and
-- have those values.
abbrev pub WriteThenRead : Type 0
WriteThenRead =
    (g : GridValues) (zs : List ℤ) (out : List ℕ) (n : ℕ) → writing g zs (length out) ≡ gives n
    → let s = take n (written_bytes g zs out) in (length s ≡ n) × (checked s ≡ gives (header_of s)) × Reads version1 g zs s

-- Writing what was read from an accepted file yields its bytes, and its length, wherever they have room.
abbrev pub ReadThenWrite : Type 0
ReadThenWrite =
    (s : List ℕ) (h : Header) → ((i : ℕ) → get_or s i 0 < 256) → checked s ≡ gives h → (out : List ℕ) → length s ≤ length out
    → let zs = records_numbers version1 s h.count in
    (writing (grid_values_of h) zs (length out) ≡ gives (length s)) × (written_bytes (grid_values_of h) zs out ≡ s ++ drop (length s) out)
