-- What a leg reaches, in the words of demand 3.
--     reaches, reached, leg-reaches, leg-reached   the rule is exactly "reaches", for a triangle and for a leg
--     none-hit, hit-none, hit-has                  what is found on a leg: nothing, exactly where it touches no filled cell; and else such a cell
--     reached-first                                the cell that a finding names is the filled one that the leg named reaches first
-- Assumes nothing.
use mathlib.Core.Bool.{Bool, true, false, and-eq-true_iff}
use mathlib.Core.List.{List}
use mathlib.Core.Path.{◌≡◌, refl, sym, subst}
use Prim.Native.Nat.{ℕ, ◌+◌, ◌<◌, ◌≤◌}
use lib.Dec.{T}
use lib.IntN.{ℤ, pos}
use lib.Signed.{◌≤ℤ◌}
use Rattle.integers.proofs.Laws.{pos-lt, lt-pos}
use Rattle.integers.proofs.Omega.{zarith, lt-true}
use Rattle.integers.proofs.Truth.{apart}
use Rattle.geometry.specs.declared.Point.{Point}
use Rattle.geometry.specs.declared.Triangle.{Triangle}
use Rattle.geometry.specs.Geometry.{leg, cube}
use Rattle.grid.specs.declared.Grid.{Grid}
use Rattle.grid.specs.Grid.{cell_count, lattice_of, corner_of}
use Rattle.overlap.specs.Rule.{overlaps_box}
use Rattle.overlap.specs.Cells.{overlaps_cell}
use Rattle.reach.specs.Reaches.{Reaches, LegReaches}
use Rattle.reach.proofs.Theorem.{cell-rule}
use Rattle.reach.proofs.Legs.{leg-rule}
use Rattle.entry.specs.declared.Fraction.{Fraction}
use Rattle.entry.specs.Entry.{earlier}
use Rattle.entry.specs.Inner.{AtMost, Positive, share, LeastFraction}
use Rattle.entry.proofs.Fractions.{at-most-trans, earlier-trans}
use Rattle.entry.proofs.Least.{entry-positive, entry-least}
use Rattle.std.specs.Prelude.{Some, None}
use Rattle.first_hit.specs.FirstHit.{filled_and_touched, entry_of_cell, first_hit}
use Rattle.first_hit.specs.Inner.{IsFirst}
use Rattle.first_hit.proofs.Nearest.{found_first, none_found, found_none}
use Rattle.demand.specs.Route.{point_at, leg_count, tested}
use Rattle.demand.specs.declared.Finding.TheVariants.{Blocked}
use Rattle.demand.specs.Demand.{ReachedFirst}
use Rattle.demand.proofs.First.{blocked-leg}

-- ---- tests and orders as statements
true-T : (b : Bool) → b ≡ true → T b
true-T true e = tt
true-T false e = absurd (apart e refl)

T_true : (b : Bool) → T b → b ≡ true
T_true true t = refl
T_true false t = absurd t

le-pos : {m n : ℕ} → pos m ≤ℤ pos n → m ≤ n
le-pos h = omega zarith

-- ---- the rule is exactly "reaches", for a triangle and for a leg
module _ (p : Point) (s : ℤ) (size : pos 0 ≤ℤ s) where
  pub reaches : (t : Triangle) → overlaps_box t p (cube s) ≡ true → Reaches t p s
  reaches t e = (cell-rule t p s size).0 (true-T _ e)

  pub reached : (t : Triangle) → Reaches t p s → overlaps_box t p (cube s) ≡ true
  reached t r = T_true _ ((cell-rule t p s size).1 r)

  pub leg-reaches : (a b : Point) → overlaps_box (leg a b) p (cube s) ≡ true → LegReaches a b p s
  leg-reaches a b e = (leg-rule a b p (cube s)).1 (reaches (leg a b) e)

  pub leg-reached : (a b : Point) → LegReaches a b p s → overlaps_box (leg a b) p (cube s) ≡ true
  leg-reached a b r = reached (leg a b) ((leg-rule a b p (cube s)).0 r)

-- ---- the cell that is found on a leg
module _ (filled : ℕ → Bool) (g : Grid) (a b : Point) where
  positive : (n : ℕ) → Positive (entry_of_cell g a b n)
  positive n = entry-positive a b (corner_of g n) (cube g.edge)

  hit-first : (n : ℕ) → first_hit filled g a b ≡ Some n → IsFirst (filled_and_touched filled g a b) (entry_of_cell g a b) (cell_count g) n
  unfolding first_hit
  hit-first n e = found_first (filled_and_touched filled g a b) (entry_of_cell g a b) positive (cell_count g) n e

  pub hit-has : (n : ℕ) → first_hit filled g a b ≡ Some n → (n < cell_count g) × (filled_and_touched filled g a b n ≡ true)
  hit-has n e = let h = hit-first n e in (h.below, h.has)

  pub none-hit : first_hit filled g a b ≡ None → (n : ℕ) → n < cell_count g → filled_and_touched filled g a b n ≡ false
  unfolding first_hit
  none-hit e = none_found (filled_and_touched filled g a b) (entry_of_cell g a b) positive (cell_count g) e

  pub hit-none : ((n : ℕ) → n < cell_count g → filled_and_touched filled g a b n ≡ false) → first_hit filled g a b ≡ None
  unfolding first_hit
  hit-none h = found_none (filled_and_touched filled g a b) (entry_of_cell g a b) positive (cell_count g) h

  -- ---- it is reached first
  module _ (size : pos 0 ≤ℤ g.edge) where
    abbrev Reached : ℕ → Type 0
    Reached n = LegReaches a b (corner_of g n) g.edge

    abbrev at : ℕ → Fraction
    at = entry_of_cell g a b

    entered : (n : ℕ) → Reached n → LeastFraction a b (corner_of g n) (cube g.edge) (at n)
    entered n r = entry-least a b (corner_of g n) (cube g.edge) r

    touched : (n : ℕ) → filled n ≡ true → Reached n → filled_and_touched filled g a b n ≡ true
    touched n e r = (and-eq-true_iff (filled n) (overlaps_cell g (lattice_of g) (leg a b) n)).1 (e, leg-reached (corner_of g n) g.edge size a b r)

    hit-reached : (n : ℕ) → first_hit filled g a b ≡ Some n → ReachedFirst filled g a b n
    hit-reached n e =
        let h = hit-first n e in
        let (full, over) = (and-eq-true_iff (filled n) (overlaps_cell g (lattice_of g) (leg a b) n)).0 h.has in
        let u = entered n (leg-reaches (corner_of g n) g.edge size a b over) in
        record {
          cell_in = h.below;
          full = full;
          at = u.at;
          least = λ m l q r.
              le-pos (subst (λ (f : Fraction). AtMost f (share r)) (sym u.is)
              (at-most-trans (at n) (at m) (share r) (positive n) (positive m) (pos-lt r.some) (h.least m l (touched m q r)) ((entered m r).least r)));
          lowest = λ m l q r.
              lt-pos (lt-true _ _ (subst (λ (f : Fraction). earlier f (share r) ≡ true) (sym u.is)
              (earlier-trans (at n) (at m) (share r) (positive n) (positive m) (pos-lt r.some) (h.lowest m l (touched m q r)) ((entered m r).least r))));
        }

-- ---- the cell that a finding names
pub reached-first : (filled : ℕ → Bool) (g : Grid) (ps : List Point) → pos 0 ≤ℤ g.edge → (m n : ℕ) → tested filled g ps ≡ Blocked m n
    → ReachedFirst filled g (point_at ps m) (point_at ps (m + 1)) n
unfolding tested
reached-first filled g ps size m n e =
    let (lm, found, before) = blocked-leg _ (leg_count ps) m n e in
    hit-reached filled g (point_at ps m) (point_at ps (m + 1)) size n found
