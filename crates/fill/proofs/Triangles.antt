-- From triangle to triangle: what a fill has added.
--     any_append        some item of two lists
--     adds_none, -more  no triangle, and one more
--     adds-all          the records from number 0 on are the file's
-- Assumes nothing.
use mathlib.Core.Bool.{Bool, true, false, ◌&&◌, ◌||◌, or_assoc, or-false, and-or_distrib_left}
use mathlib.Core.List.{List, [], ◌∷◌, ◌++◌}
use mathlib.Core.Path.{◌≡◌, refl, sym, ap, subst, ◌∙◌}
use Prim.Native.Nat.{ℕ, zero, suc, ◌+◌}
use native.Mathlib.Numerals.{add-one}
use native.Mathlib.Omega.{arith}
use lib.Dec.{ltb}
use Rattle.geometry.specs.declared.Triangle.{Triangle}
use Rattle.grid.specs.Grid.{cell_count, lattice_of}
use Rattle.map.specs.Map.{is_filled, tabulate}
use Rattle.frame.specs.File.{header_of, record_of}
use Rattle.triangles.specs.Add.{Adds}
use Rattle.fill.specs.Fill.{obstacles, any_of, filled_by, grid_of, filled_in}
use Rattle.fill.specs.Part.{triangles_from}
use Rattle.fill.specs.Inner.{AddsRecords}

pub any_append : {A : Type 0} (p : A → Bool) (xs ys : List A) → any_of p (xs ++ ys) ≡ (any_of p xs || any_of p ys)
unfolding any_of
any_append p [] ys = refl
any_append p (x ∷ xs) ys = ap (λ (b : Bool). p x || b) (any_append p xs ys) ∙ sym (or_assoc (p x) (any_of p xs) (any_of p ys))

and-false : (p : Bool) → (p && false) ≡ false
and-false true = refl
and-false false = refl

-- the cells of which `fills` holds for some triangle
module _ (fills : ℕ → Triangle → Bool) (f : ℕ → Triangle) where
  filled_none : (n : ℕ) → any_of (fills n) (tabulate f 0) ≡ false
  unfolding tabulate any_of
  filled_none n = refl

  filled_more : (i n : ℕ) → any_of (fills n) (tabulate f (i + 1)) ≡ (any_of (fills n) (tabulate f i) || fills n (f i))
  unfolding tabulate any_of
  filled_more i n =
      rw (add-one i) (any_append (fills n) (tabulate f i) (f i ∷ []) ∙ ap (λ (b : Bool). any_of (fills n) (tabulate f i) || b) (or-false (fills n (f i))))

  module _ (cells : ℕ) where
    pub adds_none : (s : List ℕ) → Adds cells (λ n. any_of (fills n) (tabulate f 0)) s s
    adds_none s = record { len = refl; each = λ n. rw (filled_none n) (sym (ap (λ (b : Bool). is_filled s n || b) (and-false (ltb n cells)) ∙ or-false (is_filled s n))) }

    pub adds-more : (i : ℕ) {a b c : List ℕ} → Adds cells (λ n. any_of (fills n) (tabulate f i)) a b → Adds cells (λ n. fills n (f i)) b c
        → Adds cells (λ n. any_of (fills n) (tabulate f (i + 1))) a c
    adds-more i first second = record {
      len = second.len ∙ first.len;
      each = λ n. second.each n ∙ rw (first.each n, or_assoc, ← and-or_distrib_left, ← filled_more i n);
    }

-- ---- all records of a file
tabulate-same : {A : Type 0} {f g : ℕ → A} → ((i : ℕ) → f i ≡ g i) → (n : ℕ) → tabulate f n ≡ tabulate g n
unfolding tabulate
tabulate-same h zero = refl
tabulate-same h (suc n) = rw (tabulate-same h n, h n)

from_zero : (i : ℕ) → 0 + i ≡ i
from_zero i = omega arith

all-records : (s : List ℕ) → triangles_from s 0 (header_of s).count ≡ obstacles s
unfolding triangles_from obstacles
all-records s = tabulate-same (λ i. ap (λ (j : ℕ). (record_of s j).triangle) (from_zero i)) (header_of s).count

pub adds-all : (s : List ℕ) {old new : List ℕ} → AddsRecords s 0 (header_of s).count old new → Adds (cell_count (grid_of s)) (filled_in s) old new
adds-all s {old} {new} =
    subst (λ (ts : List Triangle). Adds (cell_count (grid_of s)) (filled_by (grid_of s) (lattice_of (grid_of s)) ts) old new) (all-records s)
