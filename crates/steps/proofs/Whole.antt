-- A fill in steps. Begin, then ranges that have every record, in any order and as often as one likes, then end:
--     in-steps     the bytes and the answer are those of one fill
--     two-ranges   two ranges, one behind the other, have every record of both
-- Assumes nothing.
use mathlib.Core.Bool.{Bool, true, false, ◌&&◌, ◌||◌, or_assoc, or-false, and-false, and-or_distrib_left, and-eq-true_iff}
use mathlib.Core.List.{List, [], ◌∷◌, ◌++◌}
use mathlib.Core.Path.{◌≡◌, refl, sym, ap, subst, ◌∙◌}
use Prim.Native.Nat.{ℕ, zero, suc, ◌+◌, ◌-◌, ◌<◌, ◌≤◌}
use native.Mathlib.Decide.{ℕ_discrete, dec_lt}
use native.Mathlib.Omega.{arith}
use borrow.Author.Tests.{ltb-true, leb-true, le-leb, lt-ltb, le-ltb}
use lib.Dec.{leb, ltb}
use lib.ListN.{length, drop, replicate}
use Rattle.integers.proofs.Truth.{same_truth}
use Rattle.refusal.specs.Limit.{Answer, gives, refused}
use Rattle.geometry.specs.declared.Triangle.{Triangle}
use Rattle.layout.specs.declared.Header.{Header}
use Rattle.grid.specs.Grid.{cell_count, lattice_of}
use Rattle.overlap.specs.Cells.{overlaps_cell}
use Rattle.map.specs.Map.{map_length, is_filled, count_below, tabulate}
use Rattle.map.proofs.Maps.{Bytes, length-cleared, bytes-cleared}
use Rattle.frame.specs.File.{header_of, record_of}
use Rattle.triangles.specs.Add.{Adds}
use Rattle.fill.specs.Fill.{obstacles, any_of, grid_of, filled_in, filling, filled_bytes}
use Rattle.fill.specs.Part.{triangles_from, filled_from}
use Rattle.fill.proofs.Triangles.{any_append}
use Rattle.fill.proofs.Answers.{left-refused, left-given, fill-bytes, fill-count}
use Rattle.steps.specs.Steps.{Range, present, with_cells, ending, stepped_bytes, in_steps, is_covered}
use Rattle.steps.proofs.Admitted.{admission, same-header, has_room, said, barred, begun, joined, ended, begin-refused, join-refused, end_refused}
use Rattle.steps.proofs.Joined.{present-most, adds-cells, bytes-cells}

-- ---- some item of a table
or_right : (a : Bool) → (a || true) ≡ true
or_right true = refl
or_right false = refl

never : {C : Type 0} → false ≡ true → C
never e = let z : ◌≡◌ {A = ℕ} 0 1 = cc in absurd (omega arith)

module _ {A : Type 0} (p : A → Bool) (f : ℕ → A) where
  more : (n : ℕ) → any_of p (tabulate f (suc n)) ≡ (any_of p (tabulate f n) || p (f n))
  unfolding tabulate any_of
  more n = any_append p (tabulate f n) (f n ∷ []) ∙ ap (λ (b : Bool). any_of p (tabulate f n) || b) (or-false (p (f n)))

  table-has : (n i : ℕ) → i < n → p (f i) ≡ true → any_of p (tabulate f n) ≡ true
  table-has zero i l e = absurd (omega arith)
  table-has (suc n) i l e = more n ∙ go (ℕ_discrete i n) (λ h. table-has n i h e)
    where
      go : Dec (i ≡ n) → (i < n → any_of p (tabulate f n) ≡ true) → (any_of p (tabulate f n) || p (f n)) ≡ true
      go (yes q) again = rw (sym (ap (λ (j : ℕ). p (f j)) q) ∙ e) (or_right (any_of p (tabulate f n)))
      go (no q) again = rw (again (omega arith))

  table-some : {C : Type 0} (n : ℕ) → any_of p (tabulate f n) ≡ true → ((i : ℕ) → i < n → p (f i) ≡ true → C) → C
  unfolding tabulate any_of
  table-some zero e found = never e
  table-some {C} (suc n) e found = go (any_of p (tabulate f n)) refl (sym (more n) ∙ e) (λ h. table-some n h (λ i l. found i (omega arith)))
    where
      go : (b : Bool) → any_of p (tabulate f n) ≡ b → (b || p (f n)) ≡ true → (any_of p (tabulate f n) ≡ true → C) → C
      go true h q again = again h
      go false h q again = found n (omega arith) q

-- ---- ranges that have every record fill what the file fills
-- a record of the file and of a range is one of those that the range has
present-has : (total first count i : ℕ) → i < total → first ≤ i → i < first + count → i - first < present total first count
present-has total first count i t l h = omega arith

module _ (s : List ℕ) (n : ℕ) where
  abbrev total : ℕ
  total = (header_of s).count

  abbrev fills : Triangle → Bool
  fills t = overlaps_cell (grid_of s) (lattice_of (grid_of s)) t n

  -- cell n is filled by a range
  abbrev by_range : Range → Bool
  by_range r = filled_from s r.first (present total r.first r.count) n

  range-file : (r : Range) → by_range r ≡ true → filled_in s n ≡ true
  unfolding triangles_from obstacles
  range-file r e =
      table-some fills (λ i. (record_of s (r.first + i)).triangle) (present total r.first r.count) e
      (λ j l. table-has fills (λ i. (record_of s i).triangle) total (r.first + j) (omega (arith, l, present-most total r.first r.count)))

  ranges-file : (rs : List Range) → any_of by_range rs ≡ true → filled_in s n ≡ true
  unfolding any_of
  ranges-file [] e = never e
  ranges-file (r ∷ rs) e = go (by_range r) refl e (ranges-file rs)
    where
      go : (b : Bool) → by_range r ≡ b → (b || any_of by_range rs) ≡ true → (any_of by_range rs ≡ true → filled_in s n ≡ true) → filled_in s n ≡ true
      go true h q again = range-file r h
      go false h q again = again q

  module _ (i : ℕ) (l : i < total) (e : fills (record_of s i).triangle ≡ true) where
    record-range : (r : Range) → (leb r.first i && ltb i (r.first + r.count)) ≡ true → by_range r ≡ true
    unfolding triangles_from
    record-range r c =
        let (low, high) = (and-eq-true_iff (leb r.first i) (ltb i (r.first + r.count))).0 c in
        let from = leb-true r.first i low in
        let same : r.first + (i - r.first) ≡ i = omega (arith, from) in
        table-has fills (λ j. (record_of s (r.first + j)).triangle) (present total r.first r.count) (i - r.first)
        (present-has total r.first r.count i l from (ltb-true i (r.first + r.count) high)) (ap (λ (j : ℕ). fills (record_of s j).triangle) same ∙ e)

    record-ranges : (rs : List Range) → is_covered rs i ≡ true → any_of by_range rs ≡ true
    unfolding any_of
    record-ranges [] c = never c
    record-ranges (r ∷ rs) c = go (leb r.first i && ltb i (r.first + r.count)) refl c (record-ranges rs)
      where
        go : (b : Bool) → (leb r.first i && ltb i (r.first + r.count)) ≡ b → (b || is_covered rs i) ≡ true
            → (is_covered rs i ≡ true → any_of by_range rs ≡ true) → (by_range r || any_of by_range rs) ≡ true
        go true h q again = rw (record-range r h)
        go false h q again = rw (again q) (or_right (by_range r))

  covered : (rs : List Range) → ((i : ℕ) → i < total → is_covered rs i ≡ true) → any_of by_range rs ≡ filled_in s n
  unfolding obstacles
  covered rs all =
      same_truth (any_of by_range rs) (filled_in s n) (ranges-file rs)
      (λ e. table-some fills (λ i. (record_of s i).triangle) total e (λ i l q. record-ranges i l q rs (all i l)))

-- ---- ranges that have every record
pub two-ranges : (n m i : ℕ) → i < n + m → is_covered (record { first = 0; count = n } ∷ record { first = n; count = m } ∷ []) i ≡ true
unfolding any_of
two-ranges n m i l = go (dec_lt i n)
  where
    go : Dec (i < n) → is_covered (record { first = 0; count = n } ∷ record { first = n; count = m } ∷ []) i ≡ true
    go (yes h) = rw (le-leb 0 i (omega arith), lt-ltb i (0 + n) (omega arith))
    go (no h) = rw (le-leb 0 i (omega arith), le-ltb i (0 + n) (omega arith), le-leb n i (omega arith), lt-ltb i (n + m) l)

-- ---- one range behind another
module _ (cells : ℕ) where
  adds-nothing : (m : List ℕ) → Adds cells (λ n. false) m m
  adds-nothing m = record { len = refl; each = λ n. sym (ap (λ (b : Bool). is_filled m n || b) (and-false (ltb n cells)) ∙ or-false (is_filled m n)) }

  adds-both : {p q : ℕ → Bool} {a b c : List ℕ} → Adds cells p a b → Adds cells q b c → Adds cells (λ n. p n || q n) a c
  adds-both f g = record { len = g.len ∙ f.len; each = λ n. g.each n ∙ rw (f.each n, or_assoc, ← and-or_distrib_left) }

module _ (s : List ℕ) where
  abbrev cells : ℕ
  cells = cell_count (grid_of s)

  stepped-adds : (rs : List Range) (m : List ℕ) → admission s (length m) ≡ gives (header_of s) → Bytes m
      → Adds cells (λ n. any_of (by_range s n) rs) m (stepped_bytes s m rs) × Bytes (stepped_bytes s m rs)
  unfolding any_of stepped_bytes
  stepped-adds [] m e b = (adds-nothing cells m, b)
  stepped-adds (r ∷ rs) m e b =
      let p : ℕ → Bool = λ n. by_range s n r in
      let room = has_room s (length m) (header_of s) e in
      let next = with_cells p cells m in
      let one = adds-cells p cells m room in
      let (rest, bytes) = stepped-adds rs next (subst (λ (k : ℕ). admission s k ≡ gives (header_of s)) (sym one.len) e) (bytes-cells p cells m room) in
      subst (λ (x : List ℕ). Adds cells (λ n. by_range s n r || any_of (by_range s n) rs) m (stepped_bytes s x rs) × Bytes (stepped_bytes s x rs))
      (sym (joined s m (header_of s) e r.first r.count).1) (adds-both cells one rest, bytes)

  stepped-refused : {k p : ℕ} (rs : List Range) (m : List ℕ) → admission s (length m) ≡ refused k p → stepped_bytes s m rs ≡ m
  unfolding stepped_bytes
  stepped-refused [] m e = refl
  stepped-refused (r ∷ rs) m e = ap (λ (x : List ℕ). stepped_bytes s x rs) (join-refused s m e r.first r.count).1 ∙ stepped-refused rs m e

-- ---- the whole fill
module _ (s m : List ℕ) (rs : List Range) (b : Bytes m) (all : (i : ℕ) → i < (header_of s).count → is_covered rs i ≡ true) where
  abbrev AsOneFill : Type 0
  AsOneFill = (in_steps s m rs ≡ filled_bytes s m) × (ending s (in_steps s m rs) ≡ filling s m)

  passed-steps : admission s (length m) ≡ gives (header_of s) → AsOneFill
  unfolding filling
  passed-steps e =
      let room = has_room s (length m) (header_of s) e in
      let len = map_length (cells s) in
      let cleared = replicate len 0 ++ drop len m in
      let long : length cleared ≡ length m = length-cleared len m room in
      let (adds, bytes) = stepped-adds s rs cleared (subst (λ (k : ℕ). admission s k ≡ gives (header_of s)) (sym long) e) (bytes-cleared len m room b) in
      let new = stepped_bytes s cleared rs in
      let fills-all : Adds (cells s) (filled_in s) cleared new =
      record { len = adds.len; each = λ n. adds.each n ∙ ap (λ (t : Bool). is_filled cleared n || (ltb n (cells s) && t)) (covered s n rs all) } in
      let here : in_steps s m rs ≡ new = ap (λ (x : List ℕ). stepped_bytes s x rs) (begun s m (header_of s) e).1 in
      let given : filling s m ≡ gives (count_below (filled_in s) (cells s)) = said s (length m) (header_of s) e (count_below (filled_in s) (cells s)) in
      let last = ended s new (header_of s) (subst (λ (k : ℕ). admission s k ≡ gives (header_of s)) (sym (adds.len ∙ long)) e) in (
        here ∙ fill-bytes (filled_in s) (cells s) m new room fills-all b bytes ∙ sym (left-given s m given),
        ap (ending s) here ∙ last ∙ ap gives (fill-count (filled_in s) (cells s) m new room fills-all) ∙ sym given,
      )

  refused-steps : {k p : ℕ} → admission s (length m) ≡ refused k p → AsOneFill
  unfolding filling
  refused-steps e =
      let given = barred s (length m) e (count_below (filled_in s) (cells s)) in
      let here : in_steps s m rs ≡ m = ap (λ (x : List ℕ). stepped_bytes s x rs) (begin-refused s m e).1 ∙ stepped-refused s rs m e in
      (here ∙ sym (left-refused s m given), ap (ending s) here ∙ end_refused s m e ∙ sym given)

  pub in-steps : AsOneFill
  in-steps = go (admission s (length m)) refl
    where
      go : (v : Answer Header) → admission s (length m) ≡ v → AsOneFill
      go (gives h) e = passed-steps (e ∙ ap gives (sym (same-header s (length m) h e)))
      go (refused k p) e = refused-steps e
