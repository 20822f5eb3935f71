-- How a listing begins, from what the fill says and the output's length.
--     start-refused     the fill is refused: so is the call, and nothing changes
--     start-short       the output is too short: nothing changes
--     start-put         else the map is filled, and the first line is put
--     first-is          the line that the code puts is the first line
-- Assumes nothing.
use mathlib.Core.List.{List}
use mathlib.Core.Path.{◌≡◌, sym, ap, ap₂, ◌∙◌}
use Prim.Native.Nat.{ℕ, ◌<◌, ◌≤◌}
use borrow.Author.Tests.{lt-ltb, le-ltb}
use lib.ListN.{length}
use Rattle.refusal.specs.Limit.{Answer, gives, refused}
use Rattle.refusal.proofs.Asking.{refuses, passes, asked-refused, asked-given}
use Rattle.grid.specs.Grid.{cell_count}
use Rattle.map.specs.Map.{map_length, count_below}
use Rattle.layout.specs.declared.Header.{Header}
use Rattle.frame.specs.Questions.{checked}
use Rattle.frame.proofs.Accepted.{header_is}
use Rattle.fill.specs.Fill.{grid_of, filled_in, filling, filled_bytes}
use Rattle.fill.proofs.Answers.{fill-passed}
use Rattle.text.specs.Text.{spliced}
use Rattle.text.specs.Lines.{filled_line, first_most}
use Rattle.listing.specs.Listing.{first_line, Start, more, short_buffer, all_of, start, begun, begun_map, begun_bytes}

module _ (s m out : List ℕ) where
  -- This is said, and the map and the output are these afterwards.
  abbrev pub Begins : Answer Start → (map bytes : List ℕ) → Type 0
  Begins said map bytes = (said ≡ begun s m out) × (map ≡ begun_map s m out) × (bytes ≡ begun_bytes s m out)

  pub start-refused : {n p : ℕ} → filling s m ≡ refused n p → Begins (refused n p) m out
  unfolding filling begun begun_map begun_bytes
  start-refused {n} {p} e =
      let says : begun s m out ≡ refused n p = refuses _ _ (asked-refused _ _ e) in
      (sym says, rw says, rw says)

  module _ (h : Header) (c : checked s ≡ gives h) (room : map_length (cell_count h.grid) ≤ length m) where
    given : begun s m out ≡ gives (start s out)
    unfolding filling begun
    given = passes _ _ (asked-given _ _ (fill-passed s m h c room).0).0

    pub start-short : length out < first_most → Begins (gives short_buffer) m out
    unfolding begun_map begun_bytes
    start-short l =
        let says : begun s m out ≡ gives short_buffer = given ∙ rw (lt-ltb (length out) first_most l) in
        (sym says, rw says, rw says)

    pub start-put : first_most ≤ length out → Begins (gives (more (length (first_line s)) (all_of (grid_of s)))) (filled_bytes s m) (spliced out 0 (first_line s))
    unfolding begun_map begun_bytes
    start-put l =
        let says : begun s m out ≡ gives (more (length (first_line s)) (all_of (grid_of s))) = given ∙ rw (le-ltb (length out) first_most l) in
        (sym says, rw says, rw says)

    pub first-is : {count all : ℕ} → gives count ≡ filling s m → all ≡ cell_count h.grid → filled_line count all ≡ first_line s
    unfolding first_line
    first-is {count} e a =
        let n : count ≡ count_below (filled_in s) (cell_count (grid_of s)) = cc (fill-passed s m h c room).0 in
        ap₂ filled_line n (a ∙ ap (λ (x : Header). cell_count x.grid) (sym (header_is s h c)))
