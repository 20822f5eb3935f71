-- What the words of the fill hold of: its definitions of obstacles, map and count leave nothing out that they are meant for.
--     record-counts   every record that a plain reading of the file gives is an obstacle, whatever its kind
--     rule-filled     on the map that an accepted fill leaves, a cell is filled exactly where the overlap rule holds for it and some triangle
--     count-filled    the count that it gives is that of the filled cells
-- Assumes nothing.
use mathlib.Core.Bool.{Bool, true, false, cond}
use mathlib.Core.List.Memᴰ
use Rattle.std.specs.Prelude.{Some, None}
use mathlib.Core.List.{List, Memᴰ}
use mathlib.Core.Path.{◌≡◌, refl, ap, sym, ◌∙◌}
use Prim.Native.Nat.{ℕ, zero, suc, ◌<◌}
use native.Mathlib.Decide.{ℕ_discrete}
use native.Mathlib.Nat.{not-suc-le-zero}
use native.Mathlib.Omega.{arith}
use borrow.Author.Tests.{ltb-true, lt-ltb}
use lib.Dec.{ltb}
use lib.ListN.{length, drop}
use Rattle.layout.specs.declared.Header.{Header}
use Rattle.layout.specs.declared.Record.{Record}
use Rattle.grid.specs.Grid.{cell_count}
use Rattle.frame.specs.File.{header_of, record_of}
use Rattle.refusal.specs.Limit.{gives}
use Rattle.frame.specs.declared.Reading.{Reading}
use Rattle.frame.specs.Questions.{contents, file_questions, reading}
use Rattle.refusal.proofs.Asking.{asked-given}
use Rattle.map.specs.Map.{map_length, is_filled, count_below, tabulate}
use Rattle.map.proofs.Counts.{count_same}
use Rattle.map.proofs.Maps.{filled-map}
use Rattle.fill.specs.Fill.{grid_of, obstacles, filled_in, fill_questions, filling, filled_bytes}
use Rattle.fill.proofs.Answers.{left-given}

-- ---- obstacles
tabulated : {A : Type 0} (f : ℕ → A) (n i : ℕ) → i < n → Memᴰ (f i) (tabulate f n)
unfolding tabulate
tabulated f zero i l = absurd (not-suc-le-zero l)
tabulated f (suc n) i l = go (ℕ_discrete i n) (tabulated f n i)
  where
    go : Dec (i ≡ n) → (i < n → Memᴰ (f i) (tabulate f n)) → Memᴰ (f i) (tabulate f (suc n))
    go (yes e) again = Memᴰ.append_right (tabulate f n) (Memᴰ.head (ap f e))
    go (no e) again = Memᴰ.append_left _ (again (omega arith))

pub record-counts : (s : List ℕ) (i : ℕ) (h : Header) (r : Record) → reading s i ≡ gives (record { header = h; found = Some r }) → Memᴰ r.triangle (obstacles s)
unfolding reading obstacles
record-counts s i h r e = go (ltb i (header_of s).count) refl (ap (λ (x : Reading). x.found) (asked-given (contents s (header_of s) i) (file_questions s) e).1)
  where
    go : (b : Bool) → ltb i (header_of s).count ≡ b → cond b (Some (record_of s i)) None ≡ Some r → Memᴰ r.triangle (obstacles s)
    go false l q = absurd cc
    go true l q =
        let same : record_of s i ≡ r = cc in
        rw (← same) (tabulated (λ j. (record_of s j).triangle) (header_of s).count i (ltb-true i _ l))

-- ---- the map and the count
module _ (s m : List ℕ) (count : ℕ) (e : filling s m ≡ gives count) where
  abbrev cells : ℕ
  cells = cell_count (grid_of s)

  pub rule-filled : (n : ℕ) → n < cells → is_filled (filled_bytes s m) n ≡ filled_in s n
  rule-filled n l =
      ap (λ (x : List ℕ). is_filled x n) (left-given s m e) ∙ filled-map (filled_in s) cells (drop (map_length cells) m) n (omega arith) ∙ rw (lt-ltb n cells l)

  pub count-filled : count ≡ count_below (is_filled (filled_bytes s m)) cells
  unfolding filling
  count-filled = sym (asked-given _ (fill_questions s (length m)) e).1 ∙ count_same (filled_in s) (is_filled (filled_bytes s m)) cells (λ n l. sym (rule-filled n l))
