-- What the code of a piece keeps, step by step.
--     advance-none     no cell yet
--     advance-more     one run of cells behind another
--     advance-line     one cell, its line put
--     advance-skip     cells without a line
--     no_line          cells before the next filled one have no line
--     filled-line      a filled cell has the line of its place
--     advance-piece    lines put up to the piece's end are the piece
-- Assumes nothing.
use mathlib.Core.Bool.{true}
use mathlib.Core.List.{List, [], ◌++◌}
use mathlib.Core.Path.{◌≡◌, refl, sym, ap, ap₂, ◌∙◌}
use Prim.Native.Nat.{ℕ, suc, ◌+◌, ◌-◌, ◌<◌, ◌≤◌}
use native.Mathlib.Omega.{arith}
use lib.ListN.{length, length-append}
use Rattle.grid.specs.Cells.{x_of_cell, y_of_cell, z_of_cell}
use Rattle.grid.specs.Grid.{cell_count}
use Rattle.map.specs.Map.{is_filled}
use Rattle.map.specs.Inner.{NextFilled}
use Rattle.text.specs.Text.{spliced}
use Rattle.text.specs.Inner.{Puts}
use Rattle.text.specs.Lines.{place_line, line_most}
use Rattle.text.proofs.Texts.{spliced-none, spliced-more, length-spliced}
use Rattle.listing.specs.declared.Rest.{Rest}
use Rattle.listing.specs.Listing.{cell_line, line_of, lines_from, piece_of, usable, part_by, piece, piece_bytes}
use Rattle.listing.specs.Inner.{stop_at, Advances}
use Rattle.listing.proofs.Lines.{lines-add, lines-one, lines_none, stop_step, stop-skip, text_in}

module _ (line : ℕ → List ℕ) (count : ℕ) where
  pub advance-skip : (from at next : ℕ) (old : List ℕ) → from ≤ next → next ≤ count → at + line_most ≤ length old
      → ((n : ℕ) → from ≤ n → n < next → line n ≡ []) → Advances line count from at old next at old
  advance-skip from at next old forth within room none =
      let k = next - from in
      let none' : (n : ℕ) → from ≤ n → n < from + k → line n ≡ [] = λ n l u. none n l (omega arith) in
      let empty : lines_from line from k ≡ [] = lines_none line from k none' in
      let ends : from + k ≡ next = omega arith in
      let left : k + (count - next) ≡ count - from = omega arith in
      record {
        forth = forth;
        room = omega arith;
        bytes = rw empty (sym (spliced-none old at));
        moved = omega (arith, ap length empty);
        stop = sym (ap (stop_at line (length old - at) from) (sym left) ∙ stop-skip line (length old - at) from (count - next) k (omega arith) none' ∙ ap (λ (n : ℕ). stop_at line (length old - at) n (count - next)) ends);
      }

  pub advance-line : (from at behind : ℕ) (old new : List ℕ) → from < count → at + line_most ≤ length old → length new ≡ length old → behind ≤ length old
      → Puts old at (line from) new behind → Advances line count from at old (from + 1) behind new
  advance-line from at behind old new some room same fits puts =
      let single : from + 1 - from ≡ 1 = omega arith in
      let one : lines_from line from (from + 1 - from) ≡ line from = ap (lines_from line from) single ∙ lines-one line from in
      let left : suc (count - (from + 1)) ≡ count - from = omega arith in
      let rest : length old - at - length (line from) ≡ length old - behind = omega (arith, puts.next) in
      record {
        forth = omega arith;
        room = fits;
        bytes = puts.bytes ∙ ap (spliced old at) (sym one);
        moved = omega (arith, puts.next, ap length one);
        stop = sym (ap (stop_at line (length old - at) from) (sym left) ∙ stop_step line (length old - at) from (count - (from + 1)) (omega arith) ∙ ap (λ (r : ℕ). stop_at line r (from + 1) (count - (from + 1))) rest);
      }

  pub advance-none : (from : ℕ) (old : List ℕ) → Advances line count from 0 old from 0 old
  unfolding lines_from
  advance-none from old =
      let zero : from - from ≡ 0 = omega arith in
      let none : lines_from line from (from - from) ≡ [] = ap (lines_from line from) zero in
      record { forth = omega arith; room = omega arith; bytes = rw none (sym (spliced-none old 0)); moved = omega (arith, ap length none); stop = refl }

  pub advance-more : {from at mid behind next end : ℕ} {old m new : List ℕ} → Advances line count from at old mid behind m → Advances line count mid behind m next end new
      → Advances line count from at old next end new
  advance-more {from} {at} {mid} {behind} {next} {end} {old} {m} {new} p q =
      let first = lines_from line from (mid - from) in
      let second = lines_from line mid (next - mid) in
      let long : length m ≡ length old = ap length p.bytes ∙ length-spliced old at first (omega (arith, p.room, p.moved)) in
      let parts : mid - from + (next - mid) ≡ next - from = omega (arith, p.forth, q.forth) in
      let at_mid : from + (mid - from) ≡ mid = omega (arith, p.forth) in
      let both : lines_from line from (next - from) ≡ first ++ second =
      ap (lines_from line from) (sym parts) ∙ lines-add line from (mid - from) (next - mid) ∙ ap (λ (n : ℕ). first ++ lines_from line n (next - mid)) at_mid in
      record {
        forth = omega (arith, p.forth, q.forth);
        room = omega (arith, q.room);
        bytes = q.bytes ∙ ap (λ (l : List ℕ). spliced l behind second) p.bytes ∙ ap (λ (k : ℕ). spliced (spliced old at first) k second) p.moved
            ∙ spliced-more old at first second (omega (arith, p.room, p.moved)) ∙ ap (spliced old at) (sym both);
        moved = omega (arith, p.moved, q.moved, ap length both, length-append first second);
        stop = ap (λ (k : ℕ). stop_at line (k - end) next (count - next)) (sym long) ∙ q.stop ∙ ap (λ (k : ℕ). stop_at line (k - behind) mid (count - mid)) long ∙ p.stop;
      }

-- ---- the lines of a map's cells
module _ (m : List ℕ) (nx ny : ℕ) where
  pub no_line : {first end next : ℕ} → NextFilled m first end next → (n : ℕ) → first ≤ n → n < next → cell_line (is_filled m) nx ny n ≡ []
  unfolding cell_line
  no_line found n l u = rw (found.skipped n u l)

  pub filled-line : (n : ℕ) → is_filled m n ≡ true → place_line (x_of_cell nx n) (y_of_cell nx ny n) (z_of_cell nx ny n) ≡ cell_line (is_filled m) nx ny n
  unfolding cell_line
  filled-line n e = rw e

pub advance-piece : (m : List ℕ) (r : Rest) {cell at : ℕ} {out new : List ℕ} → usable (length m) r.grid ≡ true
    → Advances (line_of (is_filled m) r.grid) (cell_count r.grid) r.from 0 out cell at new
    → cell ≡ (piece_of m r (length out)).next
    → (part_by at (record { grid = r.grid; from = cell }) ≡ piece m r out) × (new ≡ piece_bytes m r out)
unfolding piece piece_bytes
advance-piece m r {cell} {at} {out} {new} u p end =
    let line = line_of (is_filled m) r.grid in
    let text : lines_from line r.from (cell - r.from) ≡ (piece_of m r (length out)).text =
    ap (λ (n : ℕ). lines_from line r.from (n - r.from)) end ∙ sym (text_in line (length out) r.from (cell_count r.grid - r.from)) in
    let len : at ≡ length (piece_of m r (length out)).text = omega (arith, p.moved, ap length text) in
    rw u (
      ap₂ (λ (n k : ℕ). part_by n (record { grid = r.grid; from = k })) len end,
      p.bytes ∙ ap (spliced out 0) text,
    )
