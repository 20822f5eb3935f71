-- The answer of the call for the bar behind a cell: its numbers fit their bits, what was packed comes back, and the list holds what the answer says.
--     behind-fits             what is behind a cell
--     told                    the call's promise, by what the search answers
--     set-weights             three stores are the weights at the start of the list
--     bar-left                the list, where a bar was found
-- Assumes nothing.
use mathlib.Core.Bool.{Bool, true, false, cond}
use mathlib.Core.List.{List, [], ◌∷◌}
use mathlib.Core.Path.{◌≡◌, refl, sym, ap, ◌∙◌, subst}
use Prim.Native.Nat.{ℕ, ◌^◌, ◌<◌, ◌≤◌}
use native.Mathlib.Omega.{arith}
use lib.Dec.{leb, lit<}
use lib.IntN.{ℤ}
use lib.ListN.{length, drop, set}
use Rattle.refusal.specs.Limit.{Answer, gives, refused}
use Rattle.layout.specs.Layout.{version1}
use Rattle.layout.proofs.Bounds.{count-lt}
use Rattle.frame.specs.File.{header_of}
use Rattle.frame.specs.Questions.{file_questions}
use Rattle.pack.proofs.Unpack.{tag_back, low-back, Fits, refusal-back}
use Rattle.pack.proofs.Fitting.{fit_append, answered-fits}
use Rattle.pack.proofs.File.{file-fits}
use Rattle.std.specs.Prelude.{Option, Some, None, Ok}
use Rattle.service.specs.declared.Bar.{Bar}
use Rattle.service.specs.Bar.{cell_question, bar_questions, behind, Shown}
use Rattle.service.proofs.Lowest.{lowest-below}
use Rattle.service.proofs.Answers.{finding}
use Rattle.desk.specs.Bar.{BarOutcome, wrote_bar, short_bar, clear_cell, bar_roomed, packed_bar, unpacked_bar, with_weights, BarLeft}
use Rattle.desk.specs.Inner.{bar_list}

-- ---- what fits
abbrev FitsBehind : Option ℕ → Type 0
FitsBehind None = Unit {0}
FitsBehind (Some i) = i < 2 ^ 32

abbrev FitsOutcome : BarOutcome → Type 0
FitsOutcome (wrote_bar i) = i < 2 ^ 32
FitsOutcome (short_bar n) = n < 2 ^ 32
FitsOutcome clear_cell = Unit {0}

module _ (s : List ℕ) (n : ℕ) where
  finding-fits : (f : Option ℕ) → finding s n ≡ f → FitsBehind f
  finding-fits None e = tt
  finding-fits (Some i) e = let l = lowest-below _ (header_of s).count i e in omega (arith, count-lt version1 s)

  behind-fits : Fits FitsBehind (behind s n)
  unfolding behind
  behind-fits = answered-fits FitsBehind (finding s n) (bar_questions s n) (fit_append (file_questions s) (cell_question (header_of s).grid n ∷ []) (file-fits s) ((lit< tt, lit< tt), tt)) (finding-fits (finding s n) refl)

roomed-fits : (a : Answer (Option ℕ)) (room : ℕ) → Fits FitsBehind a → Fits FitsOutcome (bar_roomed a room)
roomed-fits (gives None) room h = tt
roomed-fits (gives (Some i)) room h = go (leb 3 room)
  where
    go : (b : Bool) → FitsOutcome (cond b (wrote_bar i) (short_bar 3))
    go true = h
    go false = lit< tt
roomed-fits (refused n p) room h = h

-- ---- what was packed comes back
bar-back : (a : Answer BarOutcome) → Fits FitsOutcome a → unpacked_bar (packed_bar a) ≡ a
unfolding unpacked_bar
bar-back (gives (wrote_bar i)) h = rw (tag_back 0 0 0 i) (ap (λ (k : ℕ). gives (wrote_bar k)) (low-back 0 0 0 i h))
bar-back (gives (short_bar n)) h = rw (tag_back 4 0 0 n) (ap (λ (k : ℕ). gives (short_bar k)) (low-back 4 0 0 n h))
bar-back (gives clear_cell) h = refl
bar-back (refused n p) h = rw (tag_back 1 n 0 p) (refusal-back n p h)

-- ---- the promise, by what the search answers
module _ (s : List ℕ) (n : ℕ) (old : List ℤ) where
  abbrev outcome : Answer BarOutcome
  outcome = bar_roomed (behind s n) (length old)

  -- the whole promise, of an answer and of the list afterwards
  abbrev pub Promise : (r : ℕ) (new : List ℤ) → Type 0
  Promise r new = (r ≡ packed_bar outcome) × (unpacked_bar r ≡ outcome) × BarLeft s n (unpacked_bar r) old new

  pub told : (b : Answer (Option ℕ)) {r : ℕ} (new : List ℤ) → b ≡ behind s n → r ≡ packed_bar (bar_roomed b (length old)) → BarLeft s n (bar_roomed b (length old)) old new → Promise r new
  told b {r} new said packs left =
      let same : bar_roomed b (length old) ≡ outcome = ap (λ (x : Answer (Option ℕ)). bar_roomed x (length old)) said in
      let e = packs ∙ ap packed_bar same in
      let back = ap unpacked_bar e ∙ bar-back outcome (roomed-fits (behind s n) (length old) (behind-fits s n)) in
      (e, back, subst (λ (o : Answer BarOutcome). BarLeft s n o old new) (same ∙ sym back) left)

  -- a bar, by the room
  pub bar-left : (new : List ℤ) (b : Bar) → Shown s n (Ok (Some b)) → new ≡ bar_list b.weights old → BarLeft s n (bar_roomed (gives (Some b.index)) (length old)) old new
  bar-left new b shown e = go (leb 3 (length old)) e
    where
      go : (t : Bool) → new ≡ cond t (with_weights b.weights old) old → BarLeft s n (gives (cond t (wrote_bar b.index) (short_bar 3))) old new
      go true e = record { weights = b.weights; shown = shown; is = e }
      go false e = e

-- ---- the weights are stored
pub set-weights : (zs : List ℤ) (a b c : ℤ) → 3 ≤ length zs → set (set (set zs 0 a) 1 b) 2 c ≡ a ∷ b ∷ c ∷ drop 3 zs
set-weights [] a b c h = absurd (omega arith)
set-weights (x ∷ []) a b c h = absurd (omega arith)
set-weights (x ∷ y ∷ []) a b c h = absurd (omega arith)
set-weights (x ∷ y ∷ z ∷ zs) a b c h = refl
