-- What the answer of the search has to do with the map: a bar is behind each cell that a file fills, and behind no other.
--     behind-filled      by the definition of a filled cell
--     behind-map         on the map that an accepted fill leaves
-- Assumes nothing.
use mathlib.Core.Bool.{Bool, true, false, cond, ◌||◌, or-false}
use mathlib.Core.List.{List, [], ◌∷◌}
use mathlib.Core.Path.{◌≡◌, refl, ap, ap₂, ◌∙◌}
use Prim.Native.Nat.{ℕ, zero, suc}
use Rattle.refusal.specs.Limit.{gives}
use Rattle.refusal.proofs.Asking.{asked-given}
use Rattle.grid.specs.Grid.{lattice_of}
use Rattle.overlap.specs.Cells.{overlaps_cell}
use Rattle.map.specs.Map.{is_filled, tabulate}
use Rattle.frame.specs.File.{header_of, record_of}
use Rattle.fill.specs.Fill.{any_of, obstacles, filled_in, filling, filled_bytes}
use Rattle.fill.proofs.Triangles.{any_append}
use Rattle.fill.proofs.Words.{rule-filled}
use Rattle.std.specs.Prelude.{Option, Some, None, is_some}
use Rattle.service.specs.Bar.{lowest, bar_questions, behind}
use Rattle.service.proofs.Answers.{finding, behind-given}

-- one record more
more : (f : Option ℕ) (b : Bool) (n : ℕ) → (is_some f || b) ≡ is_some (elim f [ Some i ↦ Some i | None ↦ cond b (Some n) None ])
more (Some i) b n = refl
more None true n = refl
more None false n = refl

any-lowest : {A : Type 0} (p : A → Bool) (f : ℕ → A) (n : ℕ) → any_of p (tabulate f n) ≡ is_some (lowest (λ i. p (f i)) n)
unfolding any_of tabulate lowest
any-lowest p f zero = refl
any-lowest p f (suc n) =
    any_append p (tabulate f n) (f n ∷ [])
    ∙ ap₂ ◌||◌ (any-lowest p f n) (or-false (p (f n)))
    ∙ more (lowest (λ i. p (f i)) n) (p (f n)) n

module _ (s : List ℕ) (n : ℕ) {b : Option ℕ} (e : behind s n ≡ gives b) where
  pub behind-filled : filled_in s n ≡ is_some b
  unfolding obstacles behind
  behind-filled =
      let g = (header_of s).grid in
      any-lowest (λ t. overlaps_cell g (lattice_of g) t n) (λ i. (record_of s i).triangle) (header_of s).count
      ∙ ap is_some (asked-given (finding s n) (bar_questions s n) e).1

  pub behind-map : (m : List ℕ) (count : ℕ) → filling s m ≡ gives count → is_filled (filled_bytes s m) n ≡ is_some b
  behind-map m count f = rule-filled s m count f n (behind-given s n e).1 ∙ behind-filled
