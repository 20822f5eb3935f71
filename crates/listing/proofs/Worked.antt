-- The worked listing of frame g, two pieces of it, and the refusal of its first 27 bytes, by computation on the definitions themselves.
use mathlib.Core.Bool.{true, false}
use mathlib.Core.List.{List, [], ◌∷◌}
use mathlib.Core.Path.{◌≡◌, refl}
use Prim.Native.Nat.{ℕ}
use lib.ListN.{take, replicate}
use Rattle.bits.specs.Field.{bit_at, field_at, signed_at}
use Rattle.std.specs.Prelude.{Some, None, Ok}
use Rattle.refusal.specs.Limit.{gives}
use Rattle.refusal.specs.Questions.{answered, of_each}
use Rattle.grid.specs.declared.Grid.{Grid}
use Rattle.map.specs.Map.{is_filled, tabulate, count_below}
use Rattle.overlap.specs.Rule.{overlaps_box}
use Rattle.layout.specs.Values.{header_in, reserved_in, kind_in, record_in}
use Rattle.frame.specs.Questions.{checked}
use Rattle.fill.specs.Fill.{obstacles, any_of, grid_of}
use Rattle.text.specs.Text.{digits, decimal}
use Rattle.listing.specs.declared.Rest.{Rest}
use Rattle.listing.specs.Listing.{cell_line, lines_from, first_line, filled_lines, listing, more, short_buffer, all_of, begun, lines_in, piece_of, usable, written, last, unusable, piece, said_begun, said_piece}

abbrev g : List ℕ
g =
    0x10 ∷ 0x41 ∷ 0x04 ∷ 0x28 ∷ 0x00 ∷ 0x00 ∷ 0x00 ∷ 0x00 ∷ 0x00 ∷ 0x00 ∷ 0x10 ∷ 0x00
    ∷ 0x00 ∷ 0x01 ∷ 0x00 ∷ 0x50 ∷ 0x00 ∷ 0x50 ∷ 0x05 ∷ 0x00 ∷ 0x14 ∷ 0x00 ∷ 0x14 ∷ 0x01 ∷ 0x40 ∷ 0x00 ∷ 0x40 ∷ 0x05 ∷ []

-- "FILLED 3 OF 8", "1 0 0", "0 1 0", "1 1 0"
pub worked : listing g
    ≡ (70 ∷ 73 ∷ 76 ∷ 76 ∷ 69 ∷ 68 ∷ 32 ∷ 51 ∷ 32 ∷ 79 ∷ 70 ∷ 32 ∷ 56 ∷ 10
    ∷ 49 ∷ 32 ∷ 48 ∷ 32 ∷ 48 ∷ 10
    ∷ 48 ∷ 32 ∷ 49 ∷ 32 ∷ 48 ∷ 10
    ∷ 49 ∷ 32 ∷ 49 ∷ 32 ∷ 48 ∷ 10 ∷ [])
unfolding bit_at field_at signed_at header_in reserved_in kind_in record_in answered of_each checked overlaps_box tabulate count_below obstacles any_of digits decimal cell_line lines_from first_line filled_lines listing
worked = refl

-- Its map is the byte 0111 0000. Into 20 bytes go "1 0 0" and "0 1 0", 12 bytes with their line feeds: the 8 bytes left are too few for a longest line. The
-- next piece goes on from cell 3, with "1 1 0", and reaches the end of the 8 cells.
pub first_piece : piece_of (0x70 ∷ []) (record { grid = grid_of g; from = 0 }) 20
    ≡ record { text = 49 ∷ 32 ∷ 48 ∷ 32 ∷ 48 ∷ 10 ∷ 48 ∷ 32 ∷ 49 ∷ 32 ∷ 48 ∷ 10 ∷ []; next = 3 }
unfolding bit_at field_at signed_at header_in is_filled digits decimal cell_line lines_in
first_piece = refl

pub last-piece : piece_of (0x70 ∷ []) (record { grid = grid_of g; from = 3 }) 20 ≡ record { text = 49 ∷ 32 ∷ 49 ∷ 32 ∷ 48 ∷ 10 ∷ []; next = 8 }
unfolding bit_at field_at signed_at header_in is_filled digits decimal cell_line lines_in
last-piece = refl

-- "REFUSED 6 0"
pub refused : listing (take 27 g) ≡ (82 ∷ 69 ∷ 70 ∷ 85 ∷ 83 ∷ 69 ∷ 68 ∷ 32 ∷ 54 ∷ 32 ∷ 48 ∷ 10 ∷ [])
unfolding bit_at field_at signed_at header_in reserved_in kind_in record_in answered of_each checked digits decimal listing
refused = refl

-- The first line has 14 bytes; an output of 63 bytes is too short for every first line.
pub begins : (begun g (0x00 ∷ []) (replicate 64 0x00) ∷ begun g (0x00 ∷ []) (replicate 63 0x00) ∷ []) ≡ (gives (more 14 (all_of (grid_of g))) ∷ gives short_buffer ∷ [])
unfolding bit_at field_at signed_at header_in reserved_in kind_in record_in answered of_each overlaps_box tabulate count_below obstacles any_of digits decimal first_line begun
begins = refl

-- What is left of g from cell 3 on is the last piece, and from cell 0 on it is not; a map of no bytes cannot be taken.
abbrev left : (from : ℕ) → Rest
left from = record { grid = grid_of g; from = from }

pub pieces-said : (piece (0x70 ∷ []) (left 0) (replicate 20 0x00) ∷ piece (0x70 ∷ []) (left 3) (replicate 20 0x00) ∷ piece [] (left 0) (replicate 20 0x00) ∷ [])
    ≡ (written 12 (left 3) ∷ last 6 ∷ unusable ∷ [])
unfolding bit_at field_at signed_at header_in is_filled digits decimal cell_line lines_in usable piece
pieces-said = refl

-- Sides of 1 to 64 cells, each with a map that is long enough.
abbrev grid : (nx ny nz : ℕ) → Grid
grid nx ny nz = record { nx = nx; ny = ny; nz = nz; edge = (grid_of g).edge; origin = (grid_of g).origin }

pub sides :
    (usable 8 (grid 1 1 64) ∷ usable 8 (grid 64 1 1) ∷ usable 9 (grid 65 1 1) ∷ usable 9 (grid 1 65 1) ∷ usable 9 (grid 1 1 65) ∷ usable 9 (grid 1 0 1) ∷ usable 7 (grid 1 64 1) ∷ [])
    ≡ (true ∷ true ∷ false ∷ false ∷ false ∷ false ∷ false ∷ [])
unfolding usable
sides = refl

-- what the answers' cases say
pub said-begun : said_begun (Ok (record { len = 14; rest = left 0 })) ≡ gives (more 14 (left 0))
said-begun = refl

pub said-pieces : (said_piece (Some (record { len = 12; rest = Some (left 3) })) ∷ said_piece (Some (record { len = 6; rest = None })) ∷ said_piece None ∷ []) ≡ (written 12 (left 3) ∷ last 6 ∷ unusable ∷ [])
said-pieces = refl
