-- What a fill answers and leaves, from its parts.
--     file-refused, map-asked         questions 1 to 8, by the check of the file
--     left-refused, -given            the bytes that are left, by what the fill says
--     fill-refused, -short, -passed   what it says and leaves, by the questions
--     fill-bytes                      the bytes that are left are the map of the file, with the bytes behind it as they were
--     fill-count                      the count is that of the filled cells
-- Assumes nothing.
use mathlib.Core.Bool.{Bool, ◌&&◌, or-false}
use mathlib.Core.List.{List, [], ◌∷◌, ◌++◌}
use mathlib.Core.Path.{◌≡◌, ap, ◌∙◌}
use Prim.Native.Nat.{ℕ, ◌*◌, ◌<◌, ◌≤◌}
use native.Mathlib.Omega.{arith}
use borrow.Author.Tests.{le-leb, lt-leb, lt-ltb, le-ltb}
use lib.Dec.{ltb}
use lib.ListN.{length, drop, replicate}
use Rattle.layout.specs.declared.Header.{Header}
use Rattle.grid.specs.Grid.{cell_count}
use Rattle.refusal.specs.Limit.{gives, refused}
use Rattle.refusal.specs.Questions.{answered}
use Rattle.refusal.specs.Inner.{asked}
use Rattle.frame.specs.Questions.{file_questions, checked}
use Rattle.frame.proofs.Accepted.{questions-refused, questions-passed, header_is}
use Rattle.refusal.proofs.Asking.{and_then, first-append, stopped, through}
use Rattle.map.specs.Map.{map_length, is_filled, count_below, map_of}
use Rattle.map.proofs.Counts.{count_same}
use Rattle.map.proofs.Maps.{Bytes, map_is, length-cleared, cleared-in, cleared-behind}
use Rattle.fill.specs.Fill.{grid_of, filled_in, map_question, fill_questions, filling, filled_bytes}
use Rattle.triangles.specs.Add.{Adds}

-- ---- questions 1 to 8, of a call that gives x
module _ {A : Type 0} (x : A) (s : List ℕ) (len : ℕ) where
  in-turn : answered (fill_questions s len) x ≡ and_then (asked (file_questions s)) (answered (map_question (grid_of s) len ∷ []) x)
  in-turn = first-append x (file_questions s) (map_question (grid_of s) len ∷ [])

  pub file-refused : {n p : ℕ} → checked s ≡ refused n p → answered (fill_questions s len) x ≡ refused n p
  file-refused e = in-turn ∙ rw (questions-refused s e)

  pub map-asked : (h : Header) → checked s ≡ gives h → answered (fill_questions s len) x ≡ answered (map_question h.grid len ∷ []) x
  map-asked h e = in-turn ∙ rw (questions-passed s h e) (ap (λ (y : Header). answered (map_question y.grid len ∷ []) x) (header_is s h e))

-- ---- what a fill says and leaves
module _ (s m : List ℕ) where
  abbrev cells : ℕ
  cells = cell_count (grid_of s)

  abbrev new : List ℕ
  new = map_of (filled_in s) cells ++ drop (map_length cells) m

  pub left-refused : {n p : ℕ} → filling s m ≡ refused n p → filled_bytes s m ≡ m
  unfolding filled_bytes
  left-refused e = rw e

  pub left-given : {n : ℕ} → filling s m ≡ gives n → filled_bytes s m ≡ new
  unfolding filled_bytes
  left-given e = rw e

  pub fill-refused : {n p : ℕ} → checked s ≡ refused n p → (filling s m ≡ refused n p) × (filled_bytes s m ≡ m)
  unfolding filling
  fill-refused c = let e = file-refused (count_below (filled_in s) cells) s (length m) c in (e, left-refused e)

  module _ (h : Header) (c : checked s ≡ gives h) where
    pub fill-short : length m < map_length (cell_count h.grid) → (filling s m ≡ refused 8 0) × (filled_bytes s m ≡ m)
    unfolding filling
    fill-short l = let e = map-asked (count_below (filled_in s) cells) s (length m) h c ∙ stopped _ _ [] (lt-leb _ _ l) in (e, left-refused e)

    pub fill-passed : map_length (cell_count h.grid) ≤ length m → (filling s m ≡ gives (count_below (filled_in s) cells)) × (filled_bytes s m ≡ new)
    unfolding filling answered
    fill-passed l =
        let e = map-asked (count_below (filled_in s) cells) s (length m) h c ∙ through _ _ [] (le-leb _ _ l) in
        (e, left-given e)

-- ---- the map: cells are added to an emptied one
module _ (p : ℕ → Bool) (cells : ℕ) (old new : List ℕ) (room : map_length cells ≤ length old)
    (adds : Adds cells p (replicate (map_length cells) 0 ++ drop (map_length cells) old) new) where
  inside : (n : ℕ) → n < 8 * map_length cells → is_filled new n ≡ (ltb n cells && p n)
  inside n l = adds.each n ∙ rw (cleared-in (map_length cells) old room n l)

  behind : (n : ℕ) → 8 * map_length cells ≤ n → is_filled new n ≡ is_filled old n
  behind n l = adds.each n ∙ rw (cleared-behind (map_length cells) old room n l, le-ltb n cells (omega arith)) (or-false (is_filled old n))

  pub fill-bytes : Bytes old → Bytes new → new ≡ map_of p cells ++ drop (map_length cells) old
  fill-bytes bo bn = map_is p cells old new bo bn (adds.len ∙ length-cleared (map_length cells) old room) room inside behind

  pub fill-count : count_below (is_filled new) cells ≡ count_below p cells
  fill-count = count_same (is_filled new) p cells (λ n l. inside n (omega arith) ∙ rw (lt-ltb n cells l))
