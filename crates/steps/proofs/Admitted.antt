-- Questions 1 to 8, and what a step says and leaves by them.
--     admit-refused, -short, -passed    the questions in turn
--     admitted                          a file that passes was checked, and the buffer has room for its map
--     begun, joined, ended              what a step says and leaves where they pass
--     begin-refused, …                  and where they do not
-- Assumes nothing.
use mathlib.Core.List.{List, [], ◌∷◌, ◌++◌}
use mathlib.Core.Path.{◌≡◌, sym, ap, subst, ◌∙◌}
use Prim.Native.Nat.{ℕ, ◌<◌, ◌≤◌}
use borrow.Author.Tests.{leb-true, le-leb, lt-leb}
use lib.ListN.{length, drop, replicate}
use Rattle.refusal.specs.Limit.{Answer, gives, refused, unless_refused}
use Rattle.refusal.specs.Questions.{answered}
use Rattle.refusal.specs.Inner.{passed, asked}
use Rattle.refusal.proofs.Asking.{stopped, through, first-append, both-passed, passed-head, passes, refuses, asked-given, asked-refused}
use Rattle.layout.specs.declared.Header.{Header}
use Rattle.grid.specs.Grid.{cell_count}
use Rattle.map.specs.Map.{map_length, is_filled, count_below}
use Rattle.frame.specs.File.{header_of}
use Rattle.frame.specs.Questions.{file_questions, checked}
use Rattle.frame.proofs.Accepted.{header_is}
use Rattle.fill.specs.Fill.{grid_of, map_question, fill_questions}
use Rattle.fill.specs.Part.{filled_from}
use Rattle.fill.proofs.Answers.{file-refused, map-asked}
use Rattle.steps.specs.Steps.{present, beginning, begun_bytes, joining, with_cells, joined_bytes, ending}

-- ---- the questions in turn
module _ (s : List ℕ) (len : ℕ) where
  abbrev pub admission : Answer Header
  admission = answered (fill_questions s len) (header_of s)

  pub admit-refused : {n p : ℕ} → checked s ≡ refused n p → admission ≡ refused n p
  admit-refused = file-refused (header_of s) s len

  module _ (h : Header) (c : checked s ≡ gives h) where
    pub admit-short : len < map_length (cell_count h.grid) → admission ≡ refused 8 0
    admit-short l = map-asked (header_of s) s len h c ∙ stopped _ _ [] (lt-leb _ _ l)

    pub admit-passed : map_length (cell_count h.grid) ≤ len → admission ≡ gives h
    unfolding answered
    admit-passed l = map-asked (header_of s) s len h c ∙ through _ _ [] (le-leb _ _ l) ∙ ap gives (header_is s h c)

  -- what passed them
  pub roomy : asked (fill_questions s len) ≡ passed → (asked (file_questions s) ≡ passed) × (map_length (cell_count (grid_of s)) ≤ len)
  roomy e =
      let last = map_question (grid_of s) len in
      let both = both-passed (asked (file_questions s)) (asked (last ∷ [])) (sym (first-append tt (file_questions s) (last ∷ [])) ∙ e) in
      (both.0, leb-true _ _ (passed-head tt last [] both.1).0)

  module _ (h : Header) (e : admission ≡ gives h) where
    open-door : (asked (fill_questions s len) ≡ passed) × (header_of s ≡ h)
    open-door = asked-given (header_of s) (fill_questions s len) e

    pub same-header : header_of s ≡ h
    same-header = open-door.1

    pub has_room : map_length (cell_count (grid_of s)) ≤ len
    has_room = (roomy open-door.0).1

    pub admitted : (checked s ≡ gives h) × (map_length (cell_count h.grid) ≤ len)
    unfolding checked
    admitted = (
      passes (header_of s) (file_questions s) (roomy open-door.0).0 ∙ ap gives same-header,
      subst (λ (x : Header). map_length (cell_count x.grid) ≤ len) same-header has_room,
    )

    pub said : {A : Type 0} (x : A) → answered (fill_questions s len) x ≡ gives x
    said x = passes x (fill_questions s len) open-door.0

  pub barred : {n p : ℕ} → admission ≡ refused n p → {A : Type 0} (x : A) → answered (fill_questions s len) x ≡ refused n p
  barred e x = refuses x (fill_questions s len) (asked-refused (header_of s) (fill_questions s len) e)

-- ---- bytes, by what a call says
module _ {A : Type 0} {a : Answer A} (new old : List ℕ) where
  new-where-given : {x : A} → a ≡ gives x → unless_refused a new old ≡ new
  new-where-given e = rw e

  old-where-refused : {n p : ℕ} → a ≡ refused n p → unless_refused a new old ≡ old
  old-where-refused e = rw e

-- ---- what each step says and leaves
module _ (s m : List ℕ) where
  module _ (h : Header) (e : admission s (length m) ≡ gives h) where
    is : header_of s ≡ h
    is = same-header s (length m) h e

    pub begun : let len = map_length (cell_count h.grid) in (beginning s m ≡ gives h.count) × (begun_bytes s m ≡ replicate len 0 ++ drop len m)
    unfolding beginning begun_bytes
    begun = let g = said s (length m) h e (header_of s).count in
        (g ∙ ap (λ (x : Header). gives x.count) is, new-where-given _ m g ∙ ap (λ (x : Header). let len = map_length (cell_count x.grid) in replicate len 0 ++ drop len m) is)

    module _ (first count : ℕ) where
      pub joined : let n = present h.count first count in
          (joining s m first count ≡ gives n) × (joined_bytes s m first count ≡ with_cells (filled_from s first n) (cell_count (grid_of s)) m)
      unfolding joining joined_bytes
      joined =
          let g = said s (length m) h e (present (header_of s).count first count) in
          let n : Header → ℕ = λ x. present x.count first count in
          (g ∙ ap (λ (x : Header). gives (n x)) is, new-where-given _ m g ∙ ap (λ (x : Header). with_cells (filled_from s first (n x)) (cell_count (grid_of s)) m) is)

    pub ended : ending s m ≡ gives (count_below (is_filled m) (cell_count h.grid))
    unfolding ending
    ended = said s (length m) h e _ ∙ ap (λ (x : Header). gives (count_below (is_filled m) (cell_count x.grid))) is

  module _ {n p : ℕ} (e : admission s (length m) ≡ refused n p) where
    pub begin-refused : (beginning s m ≡ refused n p) × (begun_bytes s m ≡ m)
    unfolding beginning begun_bytes
    begin-refused = let g = barred s (length m) e (header_of s).count in (g, old-where-refused _ m g)

    pub join-refused : (first count : ℕ) → (joining s m first count ≡ refused n p) × (joined_bytes s m first count ≡ m)
    unfolding joining joined_bytes
    join-refused first count = let g = barred s (length m) e (present (header_of s).count first count) in (g, old-where-refused _ m g)

    pub end_refused : ending s m ≡ refused n p
    unfolding ending
    end_refused = barred s (length m) e _
