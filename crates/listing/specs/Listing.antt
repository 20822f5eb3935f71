-- The listing of a file's map, whole and by pieces. Definitions only.
use Rattle.std.specs.Prelude.{Option, Some, None, Result, Ok, Err, Bool, true, false, cond, ◌&&◌, List, [], ◌∷◌, ◌++◌, ℕ, zero, suc, ◌+◌, ◌-◌, leb, ltb, eqb, length, take}
use Rattle.refusal.specs.declared.Refusal.{Refusal}
use Rattle.refusal.specs.Limit.{Answer, gives, refused, numbered, said_limit}
use Rattle.refusal.specs.Questions.{answered}
use Rattle.grid.specs.declared.Grid.{Grid}
use Rattle.grid.specs.Cells.{x_of_cell, y_of_cell, z_of_cell}
use Rattle.grid.specs.Grid.{cell_count}
use Rattle.map.specs.Map.{map_length, is_filled, count_below}
use Rattle.frame.specs.Questions.{checked}
use Rattle.fill.specs.Fill.{grid_of, filled_in, fill_questions, filled_bytes}
use Rattle.text.specs.Text.{spliced}
use Rattle.text.specs.Lines.{filled_line, refused_line, place_line, first_most, line_most}
use Rattle.listing.specs.declared.Rest.{Rest}
use Rattle.listing.specs.declared.Begun.{Begun}
use Rattle.listing.specs.declared.BeginError.{BeginError}
use Rattle.listing.specs.declared.BeginError.TheVariants.{ShortBuffer, Refused}
use Rattle.listing.specs.declared.Piece.{Piece}

-- ---- the lines of cells
-- The line of cell n where it is filled, in a grid with nx × ny cells in a layer; else nothing.
unfoldable pub cell_line : (ℕ → Bool) → (nx ny n : ℕ) → List ℕ
cell_line filled nx ny n = cond (filled n) (place_line (x_of_cell nx n) (y_of_cell nx ny n) (z_of_cell nx ny n)) []

-- The same in the grid g.
abbrev pub line_of : (ℕ → Bool) → Grid → ℕ → List ℕ
line_of filled g = cell_line filled g.nx g.ny

-- What `count` cells from cell `from` on give, in order.
unfoldable pub lines_from : (ℕ → List ℕ) → (from count : ℕ) → List ℕ
lines_from line from zero = []
lines_from line from (suc count) = lines_from line from count ++ line (from + count)

-- ---- the whole listing of a file
-- The first line of an accepted file: the number of filled cells, and of all.
unfoldable pub first_line : List ℕ → List ℕ
first_line s = filled_line (count_below (filled_in s) (cell_count (grid_of s))) (cell_count (grid_of s))

-- The lines of its filled cells, by cell number.
unfoldable pub filled_lines : List ℕ → List ℕ
filled_lines s = lines_from (line_of (filled_in s) (grid_of s)) 0 (cell_count (grid_of s))

-- An accepted file's listing is its first line, and the lines of the filled cells. A refused file's is its REFUSED line.
unfoldable pub listing : List ℕ → List ℕ
listing s = elim (checked s) [ gives h ↦ first_line s ++ filled_lines s | refused n p ↦ refused_line n p ]

-- ---- the first line, put at the start of an output buffer that every first line fits
-- How a listing begins: so many bytes of the first line were put, and this is left to list; or the output is too short.
pub data Start : Type 0 where
  more : (len : ℕ) → Rest → Start
  short_buffer : Start

-- All cells of the grid, from cell 0 on.
abbrev pub all_of : Grid → Rest
all_of g = record { grid = g; from = 0 }

-- The start for an accepted file, by the output's length.
abbrev pub start : (file out : List ℕ) → Start
start s out = cond (ltb (length out) first_most) short_buffer (more (length (first_line s)) (all_of (grid_of s)))

-- What is said for a file, a map and an output: questions 1 to 8 come first, and the output's length behind them.
unfoldable pub begun : (file map out : List ℕ) → Answer Start
begun s m out = answered (fill_questions s (length m)) (start s out)

-- Bytes that are replaced only where the first line was put.
abbrev pub if_begun : Answer Start → (new old : List ℕ) → List ℕ
if_begun (gives (more len rest)) new old = new
if_begun (gives short_buffer) new old = old
if_begun (refused n p) new old = old

-- The map and the output afterwards: the map is filled, and the output begins with the first line.
unfoldable pub begun_map : (file map out : List ℕ) → List ℕ
begun_map s m out = if_begun (begun s m out) (filled_bytes s m) m

unfoldable pub begun_bytes : (file map out : List ℕ) → List ℕ
begun_bytes s m out = if_begun (begun s m out) (spliced out 0 (first_line s)) out

-- The text that is put for a refusal: its line, where the output is long enough; else nothing.
unfoldable pub refusal_text : Refusal → (out : List ℕ) → List ℕ
refusal_text r out = cond (ltb (length out) first_most) [] (refused_line r.number r.place)

-- ---- the cells' lines, by pieces
-- Some of the lines: their text, and the cell to go on from.
pub record Lines : Type 0 where
  pub text : List ℕ
  pub next : ℕ

-- The lines that fit into so much room, of `count` cells from cell `from` on. They stop where no cell is left, or no room for a longest line. Else the cell's
-- line is put, and then the lines of the cells behind it, into the room that is left.
unfoldable pub lines_in : (ℕ → List ℕ) → (room from count : ℕ) → Lines
lines_in line room from zero = record { text = []; next = from }
lines_in line room from (suc count) =
    let others = lines_in line (room - length (line from)) (from + 1) count in
    cond (ltb room line_most) (record { text = []; next = from }) (record { text = line from ++ others.text; next = others.next })

-- The piece of what is left to list of a map, into so much room.
abbrev pub piece_of : (map : List ℕ) → Rest → (room : ℕ) → Lines
piece_of m r room = lines_in (line_of (is_filled m) r.grid) room r.from (cell_count r.grid - r.from)

-- What is left after it.
abbrev pub rest_after : (map : List ℕ) → Rest → (room : ℕ) → Rest
rest_after m r room = record { grid = r.grid; from = (piece_of m r room).next }

-- A side of 1 to 64 cells.
abbrev pub side_fits : ℕ → Bool
side_fits n = leb 1 n && leb n 64

-- A grid of such sides, with a map of `len` bytes that is long enough.
unfoldable pub usable : ℕ → Grid → Bool
usable len g = side_fits g.nx && (side_fits g.ny && (side_fits g.nz && leb (map_length (cell_count g)) len))

-- What a call for more lines says: so many bytes were put, and this is left; so many, and no cell is left; or the grid or its map
-- cannot be taken.
pub data Part : Type 0 where
  written : (len : ℕ) → Rest → Part
  last : (len : ℕ) → Part
  unusable : Part

-- Cells are left, or none.
abbrev pub part_by : (len : ℕ) → Rest → Part
part_by len r = cond (ltb r.from (cell_count r.grid)) (written len r) (last len)

-- What is said for a map, what is left to list, and an output; and the bytes of the output afterwards.
unfoldable pub piece : (map : List ℕ) → Rest → (out : List ℕ) → Part
piece m r out = cond (usable (length m) r.grid) (part_by (length (piece_of m r (length out)).text) (rest_after m r (length out))) unusable

unfoldable pub piece_bytes : (map : List ℕ) → Rest → (out : List ℕ) → List ℕ
piece_bytes m r out = cond (usable (length m) r.grid) (spliced out 0 (piece_of m r (length out)).text) out

-- ---- what is sent in all
-- Pieces one after the other, into buffers of these lengths: each goes on from what the piece before left.
unfoldable pub pieces : (map : List ℕ) → Rest → (rooms : List ℕ) → List ℕ
pieces m r [] = []
pieces m r (room ∷ rooms) = (piece_of m r room).text ++ pieces m (rest_after m r room) rooms

-- The cell that they reach.
unfoldable pub reached : (map : List ℕ) → Rest → (rooms : List ℕ) → ℕ
reached m r [] = r.from
reached m r (room ∷ rooms) = reached m (rest_after m r room) rooms

-- The first line, as `begin` left it at the start of the output, and then the pieces of what `begin` said is left; or the refusal's
-- line, as `put_refusal` puts it at the start of the output.
abbrev pub sent : Answer Start → (map out rooms : List ℕ) → List ℕ
sent (gives (more len rest)) m out rooms = take len out ++ pieces m rest rooms
sent (gives short_buffer) m out rooms = []
sent (refused n p) m out rooms = let t = refusal_text (numbered n p) out in take (length t) (spliced out 0 t)

-- The pieces reach the last cell. A refusal has no pieces. A short output has no listing.
abbrev pub all_sent : Answer Start → (map rooms : List ℕ) → Bool
all_sent (gives (more len rest)) m rooms = eqb (reached m rest rooms) (cell_count rest.grid)
all_sent (gives short_buffer) m rooms = false
all_sent (refused n p) m rooms = true

-- ---- what the code's answers say
abbrev pub said_begun : Result Begun BeginError → Answer Start
said_begun (Ok b) = gives (more b.len b.rest)
said_begun (Err ShortBuffer) = gives short_buffer
said_begun (Err (Refused l)) = said_limit l

abbrev pub part_with : (len : ℕ) → Option Rest → Part
part_with len (Some r) = written len r
part_with len None = last len

abbrev pub said_piece : Option Piece → Part
said_piece (Some p) = part_with p.len p.rest
said_piece None = unusable
