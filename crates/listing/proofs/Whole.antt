-- The pieces make the whole.
--     next-cell        a piece goes on, where there is a cell and room for a longest line
--     goes_on          so a piece that leaves cells for the next one has passed a cell
--     pieces-lines     pieces one after the other are the lines of the cells that they pass
--     begun-usable     what `begin` says is left can be asked for: its grid is usable with the map
--     whole-listing    the first line and all pieces from there on, whatever the lengths of the buffers, are the listing of the file
--     largest-map      a map of 32,768 bytes is long enough for every file
--     rooms-enough     rooms of a longest line reach the last cell, where there are as many as cells are left
--     all-sent         so 262,144 of them send the listing of every file
--     listing-sent     what they send is the listing, with no premise but the lengths of map and output
-- Assumes nothing.
use mathlib.Core.Bool.{Bool, true, false, cond}
use mathlib.Core.List.{List, [], ◌∷◌, ◌++◌}
use mathlib.Core.Path.{◌≡◌, refl, sym, ap, ap₂, ◌∙◌, subst}
use Prim.Native.Nat.{ℕ, zero, suc, ◌+◌, ◌-◌, ◌^◌, ◌<◌, ◌≤◌}
use native.Mathlib.Decide.{dec_lt}
use native.Mathlib.Omega.{arith}
use borrow.Author.Tests.{lt-ltb, le-ltb, le-leb, ltb-true, eqb-true, eq-eqb}
use lib.Dec.{ltb}
use lib.ListN.{length, take, drop, replicate, length-append}
use lib.Seq.{take-append_seam}
use Rattle.refusal.specs.Limit.{Answer, gives, refused}
use Rattle.grid.specs.Grid.{cell_count}
use Rattle.grid.specs.Usable.{GridWithin}
use Rattle.map.specs.Map.{map_length, is_filled, map_of}
use Rattle.map.proofs.Maps.{length-map, filled-map}
use Rattle.layout.specs.declared.Header.{Header}
use Rattle.frame.specs.Questions.{checked}
use Rattle.frame.proofs.Accepted.{accepted, header_is, map-most}
use Rattle.fill.specs.Fill.{grid_of, filled_in, filled_bytes}
use Rattle.fill.proofs.Answers.{fill-refused, fill-short, fill-passed}
use Rattle.text.specs.Text.{spliced}
use Rattle.text.specs.Lines.{refused_line, first_most, line_most}
use Rattle.listing.specs.declared.Rest.{Rest}
use Rattle.listing.specs.Listing.{cell_line, line_of, lines_from, first_line, filled_lines, listing, Start, more, all_of, begun, begun_map, begun_bytes, refusal_text, usable, piece_of, rest_after, written, last, unusable, piece, pieces, reached, sent, all_sent}
use Rattle.listing.proofs.Lines.{lines-add, lines_same, stop-forth, stop-most, stop-more, text_in}
use Rattle.listing.proofs.Starts.{start-refused, start-short, start-put}
use Rattle.listing.proofs.Usable.{most-cells}

-- ---- pieces
module _ (m : List ℕ) where
  abbrev line : Rest → ℕ → List ℕ
  line r = line_of (is_filled m) r.grid

  next-forth : (r : Rest) (room : ℕ) → r.from ≤ (piece_of m r room).next
  next-forth r room = stop-forth (line r) room r.from (cell_count r.grid - r.from)

  pub next-cell : (r : Rest) (room : ℕ) → line_most ≤ room → r.from < cell_count r.grid → r.from < (piece_of m r room).next
  next-cell r room h some = stop-more (line r) room r.from (cell_count r.grid - r.from) h (omega arith)

  -- A piece that leaves cells for the next one has passed a cell.
  pub goes_on : (r : Rest) (out : List ℕ) (len : ℕ) (next : Rest) → line_most ≤ length out → piece m r out ≡ written len next
      → (r.from < next.from) × (next.from < 262144)
  unfolding piece
  goes_on r out len next h e = go (usable (length m) r.grid) (ltb stop (cell_count r.grid)) refl refl e
    where
      stop : ℕ
      stop = (piece_of m r (length out)).next

      put : ℕ
      put = length (piece_of m r (length out)).text

      go : (u l : Bool) → usable (length m) r.grid ≡ u → ltb stop (cell_count r.grid) ≡ l
          → cond u (cond l (written put (rest_after m r (length out))) (last put)) unusable ≡ written len next
          → (r.from < next.from) × (next.from < 262144)
      go true true u l e =
          let same : rest_after m r (length out) ≡ next = cc in
          let at : stop ≡ next.from = ap (λ (x : Rest). x.from) same in
          let below : stop < cell_count r.grid = ltb-true stop (cell_count r.grid) l in
          let some : r.from < stop = next-cell r (length out) h (omega (arith, next-forth r (length out))) in
          (omega arith, omega (arith, most-cells (length m) r.grid u))
      go true false u l e = let z : ◌≡◌ {A = ℕ} 0 1 = cc in absurd (omega arith)
      go false l u _ e = let z : ◌≡◌ {A = ℕ} 0 1 = cc in absurd (omega arith)

  reached-forth : (r : Rest) (rooms : List ℕ) → r.from ≤ reached m r rooms
  unfolding reached
  reached-forth r [] = omega arith
  reached-forth r (room ∷ rooms) = omega (arith, next-forth r room, reached-forth (rest_after m r room) rooms)

  pub pieces-lines : (r : Rest) (rooms : List ℕ) → pieces m r rooms ≡ lines_from (line r) r.from (reached m r rooms - r.from)
  unfolding pieces reached lines_from
  pieces-lines r [] =
      let none : 0 ≡ r.from - r.from = omega arith in
      ap (lines_from (line r) r.from) none
  pieces-lines r (room ∷ rooms) =
      let from = r.from in
      let next = (piece_of m r room).next in
      let left = rest_after m r room in
      let end = reached m left rooms in
      let at : next ≡ from + (next - from) = omega (arith, next-forth r room) in
      let both : next - from + (end - next) ≡ end - from = omega (arith, next-forth r room, reached-forth left rooms) in
      ap₂ ◌++◌ (text_in (line r) room from (cell_count r.grid - from)) (pieces-lines left rooms ∙ ap (λ (n : ℕ). lines_from (line r) n (end - next)) at)
      ∙ sym (lines-add (line r) from (next - from) (end - next))
      ∙ ap (lines_from (line r) from) both

  -- As many rooms of a longest line as there are cells left, or more, reach the last cell.
  pub rooms-enough : (n : ℕ) (r : Rest) → r.from ≤ cell_count r.grid → cell_count r.grid ≤ r.from + n
      → reached m r (replicate n line_most) ≡ cell_count r.grid
  unfolding reached
  rooms-enough zero r l u = omega arith
  rooms-enough (suc n) r l u =
      let cells = cell_count r.grid in
      let next = (piece_of m r line_most).next in
      let most : next ≤ cells = omega (arith, stop-most (line r) line_most r.from (cells - r.from)) in
      rooms-enough n (rest_after m r line_most) most (passed (dec_lt r.from cells))
    where
      passed : Dec (r.from < cell_count r.grid) → cell_count r.grid ≤ (piece_of m r line_most).next + n
      passed (yes some) = omega (arith, next-cell r line_most (omega arith) some)
      passed (no none) = omega (arith, next-forth r line_most)

-- ---- an accepted file and a map that is long enough
module _ (s m : List ℕ) (h : Header) (e : checked s ≡ gives h) (fits : map_length (cell_count h.grid) ≤ length m) where
  abbrev cells : ℕ
  cells = cell_count (grid_of s)

  bytes : filled_bytes s m ≡ map_of (filled_in s) cells ++ drop (map_length cells) m
  bytes = (fill-passed s m h e fits).1

  -- The grid is usable with the map.
  grid-usable : usable (length (filled_bytes s m)) (grid_of s) ≡ true
  unfolding usable
  grid-usable =
      let sides = subst (λ (x : Header). GridWithin (2 ^ 13) (2 ^ 8) x.grid) (sym (header_is s h e)) (accepted s h e).grid.within in
      let map = map_of (filled_in s) cells in
      let rest = drop (map_length cells) m in
      let whole : map_length cells ≤ length (map ++ rest) = omega (arith, length-append map rest, length-map (filled_in s) cells) in
      rw (
        bytes,
        le-leb 1 (grid_of s).nx sides.x.some,
        le-leb (grid_of s).nx 64 sides.x.most,
        le-leb 1 (grid_of s).ny sides.y.some,
        le-leb (grid_of s).ny 64 sides.y.most,
        le-leb 1 (grid_of s).nz sides.z.some,
        le-leb (grid_of s).nz 64 sides.z.most,
        le-leb (map_length cells) (length (map ++ rest)) whole,
      )

  -- The lines of the map are those of the file's filled cells.
  same_line : (n : ℕ) → n < 0 + cells → line_of (is_filled (filled_bytes s m)) (grid_of s) n ≡ line_of (filled_in s) (grid_of s) n
  unfolding cell_line
  same_line n l = rw (bytes, filled-map (filled_in s) cells (drop (map_length cells) m) n (omega arith), lt-ltb n cells (omega arith))

  all_lines : (rooms : List ℕ) → reached (filled_bytes s m) (all_of (grid_of s)) rooms ≡ cells → pieces (filled_bytes s m) (all_of (grid_of s)) rooms ≡ filled_lines s
  unfolding filled_lines
  all_lines rooms end =
      let count : reached (filled_bytes s m) (all_of (grid_of s)) rooms - 0 ≡ cells = omega arith in
      pieces-lines (filled_bytes s m) (all_of (grid_of s)) rooms
      ∙ ap (lines_from (line_of (is_filled (filled_bytes s m)) (grid_of s)) 0) count
      ∙ lines_same (line_of (is_filled (filled_bytes s m)) (grid_of s)) (line_of (filled_in s) (grid_of s)) 0 cells same_line

-- ---- what `begin` says is left can be asked for: its grid is usable with the map
pub begun-usable : (s m out : List ℕ) (len : ℕ) (rest : Rest) → begun s m out ≡ gives (more len rest)
    → usable (length (begun_map s m out)) rest.grid ≡ true
begun-usable s m out len rest more-is = file (checked s) refl
  where
    Usable : Type 0
    Usable = usable (length (begun_map s m out)) rest.grid ≡ true

    room : (h : Header) → checked s ≡ gives h → map_length (cell_count h.grid) ≤ length m → Dec (length out < first_most) → Usable
    room h e fits (yes l) = let z : ◌≡◌ {A = ℕ} 0 1 = cc (start-short s m out h e fits l).0 in absurd (omega arith)
    room h e fits (no l) =
        let b = start-put s m out h e fits (omega arith) in
        let same : all_of (grid_of s) ≡ rest = cc b.0 in
        rw (sym b.1) (subst (λ (r : Rest). usable (length (filled_bytes s m)) r.grid ≡ true) same (grid-usable s m h e fits))

    file : (r : Answer Header) → checked s ≡ r → Usable
    file (refused n p) e = let z : ◌≡◌ {A = ℕ} 0 1 = cc (start-refused s m out (fill-refused s m e).0).0 in absurd (omega arith)
    file (gives h) e = map (dec_lt (length m) (map_length (cell_count h.grid)))
      where
        map : Dec (length m < map_length (cell_count h.grid)) → Usable
        map (yes l) = let z : ◌≡◌ {A = ℕ} 0 1 = cc (start-refused s m out (fill-short s m h e l).0).0 in absurd (omega arith)
        map (no l) = room h e (omega arith) (dec_lt (length out) first_most)

-- ---- the whole
-- The text at the start of the bytes.
front : (s t : List ℕ) → take (length t) (spliced s 0 t) ≡ t
unfolding spliced
front s t = take-append_seam t (drop (0 + length t) s)

-- The map is long enough for the file, if it is accepted.
abbrev pub MapFits : (file map : List ℕ) → Type 0
MapFits s m = (h : Header) → checked s ≡ gives h → map_length (cell_count h.grid) ≤ length m

pub largest-map : (s m : List ℕ) → 32768 ≤ length m → MapFits s m
largest-map s m long h e = omega (arith, map-most (accepted s h e))

module _ (s m out rooms : List ℕ) (fits : MapFits s m) (long : first_most ≤ length out) where
  abbrev Whole : Answer Start → (map bytes : List ℕ) → Type 0
  Whole said map bytes = all_sent said map rooms ≡ true → sent said map bytes rooms ≡ listing s

  file-refused : (n p : ℕ) → checked s ≡ refused n p → Whole (refused n p) m out
  unfolding listing refusal_text
  file-refused n p e = rw (le-ltb (length out) first_most long, e, listing) (λ all. front out (refused_line n p))

  file-passed : (h : Header) → checked s ≡ gives h → Whole (gives (more (length (first_line s)) (all_of (grid_of s)))) (filled_bytes s m) (spliced out 0 (first_line s))
  unfolding listing
  file-passed h e = rw (e, listing) (λ all. ap₂ ◌++◌ (front out (first_line s)) (all_lines s m h e (fits h e) rooms (eqb-true _ (cell_count (grid_of s)) all)))

  pub whole-listing : all_sent (begun s m out) (begun_map s m out) rooms ≡ true
      → sent (begun s m out) (begun_map s m out) (begun_bytes s m out) rooms ≡ listing s
  whole-listing = go (checked s) refl
    where
      go : (r : Answer Header) → checked s ≡ r → Whole (begun s m out) (begun_map s m out) (begun_bytes s m out)
      go (refused n p) e = let b = start-refused s m out (fill-refused s m e).0 in rw (← b.0, ← b.2) (file-refused n p e)
      go (gives h) e = let b = start-put s m out h e (fits h e) long in rw (← b.0, ← b.1, ← b.2) (file-passed h e)

-- ---- and it is always sent: rooms of a longest line, as many as the largest grid has cells
module _ (s m out : List ℕ) (fits : MapFits s m) (long : first_most ≤ length out) (n : ℕ) (enough : 262144 ≤ n) where
  pub all-sent : all_sent (begun s m out) (begun_map s m out) (replicate n line_most) ≡ true
  all-sent = go (checked s) refl
    where
      go : (r : Answer Header) → checked s ≡ r → all_sent (begun s m out) (begun_map s m out) (replicate n line_most) ≡ true
      go (refused k p) e = rw (← (start-refused s m out (fill-refused s m e).0).0)
      go (gives h) e =
          let b = start-put s m out h e (fits h e) long in
          let most : cell_count (grid_of s) < 262145 = omega (arith, most-cells (length (filled_bytes s m)) (grid_of s) (grid-usable s m h e (fits h e))) in
          rw (← b.0, ← b.1, eq-eqb _ _ (rooms-enough (filled_bytes s m) n (all_of (grid_of s)) (omega arith) (omega arith)))

  pub listing-sent : sent (begun s m out) (begun_map s m out) (begun_bytes s m out) (replicate n line_most) ≡ listing s
  listing-sent = whole-listing s m out (replicate n line_most) fits long all-sent
