-- Laws of lines of cells, of those that fit, and of the cell at which they stop.
--     lines-add, -one, -none   of two runs of cells, of one cell, and of cells without a line
--     lines_same               lines that agree
--     stop-here, -end          lines stop where there is no room for a line, and at the end of the cells
--     stop_step, -skip         they go on behind a cell, and behind cells without a line
--     stop-forth, -most        they stop at their first cell or behind it, and not beyond the end of the cells
--     stop-more                where there is a cell and room for a line, they go on
--     text_in                  the lines that fit are those of the cells up to where they stop
-- Assumes nothing.
use mathlib.Core.List.{List, [], ◌++◌, append_assoc, append-nil}
use mathlib.Core.Path.{◌≡◌, refl, sym, ap, ap₂, ◌∙◌, subst}
use Prim.Native.Nat.{ℕ, zero, suc, ◌+◌, ◌-◌, ◌<◌, ◌≤◌}
use native.Mathlib.Nat.{add-zero, add-suc, zero-add, suc-add}
use native.Mathlib.Decide.{dec_lt}
use native.Mathlib.Omega.{arith}
use borrow.Author.Tests.{lt-ltb, le-ltb}
use lib.ListN.{length}
use Rattle.text.specs.Lines.{line_most}
use Rattle.listing.specs.Listing.{lines_from, Lines, lines_in}
use Rattle.listing.specs.Inner.{stop_at}

pub lines_same : (f g : ℕ → List ℕ) (from count : ℕ) → ((n : ℕ) → n < from + count → f n ≡ g n) → lines_from f from count ≡ lines_from g from count
unfolding lines_from
lines_same f g from zero h = refl
lines_same f g from (suc k) h = rw (lines_same f g from k (λ n l. h n (omega arith)), h (from + k) (omega arith))

module _ (line : ℕ → List ℕ) where
  -- ---- lines
  pub lines-add : (from j k : ℕ) → lines_from line from (j + k) ≡ lines_from line from j ++ lines_from line (from + j) k
  unfolding lines_from
  lines-add from j zero = ap (lines_from line from) (add-zero j) ∙ sym (append-nil (lines_from line from j))
  lines-add from j (suc k) =
      let at : from + (j + k) ≡ from + j + k = omega arith in
      ap (lines_from line from) (add-suc j k)
      ∙ ap (λ (l : List ℕ). l ++ line (from + (j + k))) (lines-add from j k)
      ∙ append_assoc (lines_from line from j) (lines_from line (from + j) k) (line (from + (j + k)))
      ∙ ap (λ (n : ℕ). lines_from line from j ++ (lines_from line (from + j) k ++ line n)) at

  pub lines-one : (from : ℕ) → lines_from line from 1 ≡ line from
  unfolding lines_from
  lines-one from = ap line (add-zero from)

  pub lines_none : (from count : ℕ) → ((n : ℕ) → from ≤ n → n < from + count → line n ≡ []) → lines_from line from count ≡ []
  unfolding lines_from
  lines_none from zero h = refl
  lines_none from (suc k) h = rw (lines_none from k (λ n l u. h n l (omega arith)), h (from + k) (omega arith) (omega arith))

  -- ---- the lines that fit
  in-here : (room from count : ℕ) → room < line_most → lines_in line room from count ≡ record { text = []; next = from }
  unfolding lines_in
  in-here room from zero h = refl
  in-here room from (suc count) h = rw (lt-ltb room line_most h)

  in_step : (room from count : ℕ) → line_most ≤ room → let others = lines_in line (room - length (line from)) (from + 1) count in
      lines_in line room from (suc count) ≡ record { text = line from ++ others.text; next = others.next }
  unfolding lines_in
  in_step room from count h = rw (le-ltb room line_most h)

  pub stop-here : (room from count : ℕ) → room < line_most → stop_at line room from count ≡ from
  stop-here room from count h = ap (λ (l : Lines). l.next) (in-here room from count h)

  pub stop-end : (room from : ℕ) → stop_at line room from 0 ≡ from
  unfolding lines_in
  stop-end room from = refl

  pub stop_step : (room from count : ℕ) → line_most ≤ room → stop_at line room from (suc count) ≡ stop_at line (room - length (line from)) (from + 1) count
  stop_step room from count h = ap (λ (l : Lines). l.next) (in_step room from count h)

  pub stop-skip : (room from count k : ℕ) → line_most ≤ room → ((n : ℕ) → from ≤ n → n < from + k → line n ≡ []) → stop_at line room from (k + count) ≡ stop_at line room (from + k) count
  stop-skip room from count zero h none =
      let here : from ≡ from + 0 = omega arith in
      ap (stop_at line room from) (zero-add count) ∙ ap (λ (n : ℕ). stop_at line room n count) here
  stop-skip room from count (suc k) h none =
      let same : room - length (line from) ≡ room = omega (arith, ap length (none from (omega arith) (omega arith))) in
      let at : from + 1 + k ≡ from + suc k = omega arith in
      ap (stop_at line room from) (suc-add k count)
      ∙ stop_step room from (k + count) h
      ∙ ap (λ (r : ℕ). stop_at line r (from + 1) (k + count)) same
      ∙ stop-skip room (from + 1) count k h (λ n l u. none n (omega arith) (omega arith))
      ∙ ap (λ (n : ℕ). stop_at line room n count) at

  pub stop-forth : (room from count : ℕ) → from ≤ stop_at line room from count
  stop-forth room from zero = rw (stop-end room from) (omega arith)
  stop-forth room from (suc count) = go (dec_lt room line_most) (stop-forth (room - length (line from)) (from + 1) count)
    where
      go : Dec (room < line_most) → from + 1 ≤ stop_at line (room - length (line from)) (from + 1) count → from ≤ stop_at line room from (suc count)
      go (yes l) ih = rw (stop-here room from (suc count) l) (omega arith)
      go (no l) ih = rw (stop_step room from count (omega arith)) (omega arith)

  pub stop-most : (room from count : ℕ) → stop_at line room from count ≤ from + count
  stop-most room from zero = rw (stop-end room from) (omega arith)
  stop-most room from (suc count) = go (dec_lt room line_most) (stop-most (room - length (line from)) (from + 1) count)
    where
      go : Dec (room < line_most) → stop_at line (room - length (line from)) (from + 1) count ≤ from + 1 + count → stop_at line room from (suc count) ≤ from + suc count
      go (yes l) ih = rw (stop-here room from (suc count) l) (omega arith)
      go (no l) ih = rw (stop_step room from count (omega arith)) (omega arith)

  pub stop-more : (room from count : ℕ) → line_most ≤ room → 0 < count → from < stop_at line room from count
  stop-more room from zero h some = absurd (omega arith)
  stop-more room from (suc count) h some = rw (stop_step room from count h) (omega (arith, stop-forth (room - length (line from)) (from + 1) count))

  -- The text is that of the cells from `from` on up to the next.
  abbrev Reaches : ℕ → Lines → Type 0
  Reaches from l = l.text ≡ lines_from line from (l.next - from)

  pub text_in : (room from count : ℕ) → Reaches from (lines_in line room from count)
  unfolding lines_from lines_in
  text_in room from zero = let none : 0 ≡ from - from = omega arith in ap (lines_from line from) none
  text_in room from (suc count) = go (dec_lt room line_most) (text_in (room - length (line from)) (from + 1) count)
    where
      others : Lines
      others = lines_in line (room - length (line from)) (from + 1) count

      go : Dec (room < line_most) → Reaches (from + 1) others → Reaches from (lines_in line room from (suc count))
      go (yes l) ih = let none : 0 ≡ from - from = omega arith in subst (Reaches from) (sym (in-here room from (suc count) l)) (ap (lines_from line from) none)
      go (no l) ih =
          let behind = others.next - (from + 1) in
          let both : 1 + behind ≡ others.next - from = omega (arith, stop-forth (room - length (line from)) (from + 1) count) in
          subst (Reaches from) (sym (in_step room from count (omega arith)))
          (ap₂ ◌++◌ (sym (lines-one from)) ih ∙ sym (lines-add from 1 behind) ∙ ap (lines_from line from) both)
