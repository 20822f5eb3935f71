-- What the call for the bar behind a cell says and leaves, where its weights go to a lent list. Definitions only. `pack` says how answers are packed.
use Rattle.std.specs.Prelude.{Option, Some, None, Ok, cond, List, ◌∷◌, ◌≡◌, ℕ, leb, eqb, ℤ, drop}
use Rattle.refusal.specs.Limit.{Answer, gives, refused}
use Rattle.weights.specs.declared.Weights.{Weights}
use Rattle.pack.specs.Pack.{packed, tag_of, low_of, packed_refusal, or_refusal}
use Rattle.service.specs.Bar.{Shown}

-- A bar's weights were written; or the list has no room for so many numbers, and nothing was written; or the cell is clear.
pub data BarOutcome : Type 0 where
  wrote_bar : (i : ℕ) → BarOutcome
  short_bar : (wanted : ℕ) → BarOutcome
  clear_cell : BarOutcome

-- By what is behind the cell, and the room: a bar wants three numbers.
abbrev pub bar_roomed : Answer (Option ℕ) → (room : ℕ) → Answer BarOutcome
bar_roomed (gives None) room = gives clear_cell
bar_roomed (gives (Some i)) room = gives (cond (leb 3 room) (wrote_bar i) (short_bar 3))
bar_roomed (refused n p) room = refused n p

-- Tag 0 and the record's number; tag 4 and how many numbers are wanted; tag 5 alone for clear; or the refusal.
abbrev pub packed_bar : Answer BarOutcome → ℕ
packed_bar (gives (wrote_bar i)) = packed 0 0 0 i
packed_bar (gives (short_bar n)) = packed 4 0 0 n
packed_bar (gives clear_cell) = packed 5 0 0 0
packed_bar (refused n p) = packed_refusal n p

unfoldable pub unpacked_bar : ℕ → Answer BarOutcome
unpacked_bar r = or_refusal r (gives (cond (eqb (tag_of r) 0) (wrote_bar (low_of r)) (cond (eqb (tag_of r) 4) (short_bar (low_of r)) clear_cell)))

-- The three weights at the start of the list. The numbers behind them are what they were.
abbrev pub with_weights : Weights → List ℤ → List ℤ
with_weights w zs = w.w0 ∷ w.w1 ∷ w.w2 ∷ drop 3 zs

-- Weights of record i that show it behind the cell stand in the list now.
pub record WroteBar (file : List ℕ) (cell i : ℕ) (old new : List ℤ) : Type 0 where
  pub weights : Weights
  pub shown : Shown file cell (Ok (Some (record { index = i; weights = weights })))
  pub is : new ≡ with_weights weights old

-- What the list holds afterwards, by the outcome; and clear is said only where no triangle reaches the cell.
abbrev pub BarLeft : (file : List ℕ) (cell : ℕ) → Answer BarOutcome → (old new : List ℤ) → Type 0
BarLeft s n (gives (wrote_bar i)) old new = WroteBar s n i old new
BarLeft s n (gives (short_bar k)) old new = new ≡ old
BarLeft s n (gives clear_cell) old new = Shown s n (Ok None) × (new ≡ old)
BarLeft s n (refused k p) old new = new ≡ old
