-- A run, narrowed by tests.
-- Assumes nothing.
use mathlib.Core.Bool.{Bool, true, ◌&&◌, and-eq-true_iff, and_assoc}
use mathlib.Core.List.{[], ◌∷◌}
use mathlib.Core.Path.{◌≡◌, ap, ◌∙◌}
use Prim.Native.Nat.{ℕ, ◌≤◌, ◌<◌}
use native.Mathlib.Nat.{lt_of_not-le, le_of_suc-le-suc}
use native.Mathlib.Decide.{dec_lt}
use native.Mathlib.Omega.{arith}
use borrow.Author.Tests.{le-leb, lt-ltb, ltb-true, leb-true}
use lib.Dec.{leb, ltb}
use lib.IntN.{ℤ, pos, neg_ℤ, ◌-ℤ◌}
use lib.Signed.{◌≤ℤ◌, ◌<ℤ◌, le_z, clash_ℤ}
use Rattle.integers.proofs.Truth.{same_truth}
use Rattle.integers.proofs.Omega.{zarith, -!, true-le, le-true}
use Rattle.integers.proofs.Expr.{var, num, neg, ◌⊕◌, ◌⊖◌, ◌⊗◌}
use Rattle.integers.proofs.Ring.{ring}
use Rattle.grid.specs.declared.CellRange.{CellRange}
use Rattle.grid.specs.Range.{in_range}
use Rattle.runs.specs.Run.{form_at, passes, FormHolds, FormFails, Splits, Narrows, in_slab}

le_of_not_lt : {a b : ℕ} → (b < a → ⊥) → a ≤ b
le_of_not_lt f = le_of_suc-le-suc (lt_of_not-le f)

-- a cell of a range, by its ends
pub in-range : (r : CellRange) (k : ℕ) → in_range r k ≡ true → (r.first ≤ k) × (k < r.end)
in-range r k e =
    let (l, h) = (and-eq-true_iff (leb r.first k) (ltb k r.end)).0 e in
    (leb-true r.first k l, ltb-true k r.end h)

pub range-in : (r : CellRange) (k : ℕ) → r.first ≤ k → k < r.end → in_range r k ≡ true
range-in r k l h = (and-eq-true_iff (leb r.first k) (ltb k r.end)).1 (le-leb r.first k l, lt-ltb k r.end h)

-- r is the part of the run whose cells have the property, by what holds of the cells
pub narrows : (run r : CellRange) (p : ℕ → Bool) → r.first ≤ r.end → run.first ≤ r.first → r.end ≤ run.end
    → ((k : ℕ) → r.first ≤ k → k < r.end → p k ≡ true)
    → ((k : ℕ) → run.first ≤ k → k < run.end → p k ≡ true → (r.first ≤ k) × (k < r.end))
    → Narrows run p r
narrows run r p o f t all only = record {
  ordered = o;
  from = f;
  to = t;
  exact = λ k. same_truth (in_range r k) (in_range run k && p k)
      (λ e. let (l, h) = in-range r k e in (and-eq-true_iff (in_range run k) (p k)).1 (range-in run k (omega arith) (omega arith), all k l h))
      (λ e. let (i, q) = (and-eq-true_iff (in_range run k) (p k)).0 e in let (l, h) = in-range run k i in let (l', h') = only k l h q in range-in r k l' h');
}

-- ---- by a slab
module _ (step at reach : ℤ) where
  -- the forms that the three searches step, at cell k
  mirrored : (k : ℕ) → form_at (neg_ℤ step) (neg_ℤ at -ℤ pos 1) k ≡ pos 0 -ℤ form_at step at k -ℤ pos 1
  mirrored k = ring (step ∷ at ∷ pos k ∷ []) (neg (var 0) ⊗ var 2 ⊕ (neg (var 1) ⊖ num 1)) (num 0 ⊖ (var 0 ⊗ var 2 ⊕ var 1) ⊖ num 1) tt

  shifted : (k : ℕ) → form_at step (at -ℤ reach -ℤ pos 1) k ≡ form_at step at k -ℤ reach -ℤ pos 1
  shifted k = ring (step ∷ at ∷ reach ∷ pos k ∷ []) (var 0 ⊗ var 3 ⊕ (var 1 ⊖ var 2 ⊖ num 1)) (var 0 ⊗ var 3 ⊕ var 1 ⊖ var 2 ⊖ num 1) tt

  below-zero : {x y : ℤ} → y ≡ pos 0 -ℤ x -ℤ pos 1 → pos 0 ≤ℤ y → x <ℤ pos 0
  below-zero {x} {y} e h = omega (zarith, -! (pos 0) x, -! (pos 0 -ℤ x) (pos 1))

  from_zero : {x y : ℤ} → y ≡ pos 0 -ℤ x -ℤ pos 1 → y <ℤ pos 0 → pos 0 ≤ℤ x
  from_zero {x} {y} e h = omega (zarith, -! (pos 0) x, -! (pos 0 -ℤ x) (pos 1))

  past : {x y : ℤ} → y ≡ x -ℤ reach -ℤ pos 1 → pos 0 ≤ℤ y → reach <ℤ x
  past {x} {y} e h = omega (zarith, -! x reach, -! (x -ℤ reach) (pos 1))

  not-past : {x y : ℤ} → y ≡ x -ℤ reach -ℤ pos 1 → y <ℤ pos 0 → x ≤ℤ reach
  not-past {x} {y} e h = omega (zarith, -! x reach, -! (x -ℤ reach) (pos 1))

  pub in-slab : {run : CellRange} {hint up first end : ℕ} → run.first ≤ hint → hint ≤ run.end
      → Splits hint run.end (FormFails step at) (FormHolds step at) up
      → Splits run.first up (FormHolds (neg_ℤ step) (neg_ℤ at -ℤ pos 1)) (FormFails (neg_ℤ step) (neg_ℤ at -ℤ pos 1)) first
      → Splits first run.end (FormFails step (at -ℤ reach -ℤ pos 1)) (FormHolds step (at -ℤ reach -ℤ pos 1)) end
      → Narrows run (in_slab step at reach) (record { first = first; end = end })
  in-slab {run} {hint} {up} {first} {end} l h a b c =
      narrows run (record { first = first; end = end }) (in_slab step at reach) c.from b.from c.to
      (λ k lo hi. (and-eq-true_iff (passes step at k) (le_z (form_at step at k) reach)).1
      (true-le (pos 0) (form_at step at k) (low k lo (omega (arith, c.to))), true-le (form_at step at k) reach (not-past (shifted k) (c.below k lo hi))))
      (λ k lo hi e. let (p, q) = (and-eq-true_iff (passes step at k) (le_z (form_at step at k) reach)).0 e in
      let f = le_of_not_lt (λ n. clash_ℤ (below-zero (mirrored k) (b.below k lo n)) (le-true (pos 0) (form_at step at k) p)) in
      (f, lt_of_not-le (λ n. clash_ℤ (past (shifted k) (c.above k n hi)) (le-true (form_at step at k) reach q))))
    where
      low : (k : ℕ) → first ≤ k → k < run.end → pos 0 ≤ℤ form_at step at k
      low k lo hi = go (dec_lt k up)
        where
          go : Dec (k < up) → pos 0 ≤ℤ form_at step at k
          go (yes d) = from_zero (mirrored k) (b.above k lo d)
          go (no d) = a.above k (omega arith) hi

-- ---- by two tests, and by an edge
pub by_both : {run half r : CellRange} {p q : ℕ → Bool} → Narrows run p half → Narrows half q r → Narrows run (λ k. p k && q k) r
by_both {run} {half} {r} {p} {q} f g = record {
  ordered = g.ordered;
  from = omega (arith, f.from, g.from);
  to = omega (arith, f.to, g.to);
  exact = λ k. g.exact k ∙ ap (λ (b : Bool). b && q k) (f.exact k) ∙ and_assoc (in_range run k) (p k) (q k);
}

-- a test that gives the same answers
pub by-same : {run r : CellRange} {p q : ℕ → Bool} → ((k : ℕ) → p k ≡ q k) → Narrows run p r → Narrows run q r
by-same {run} e f = record { ordered = f.ordered; from = f.from; to = f.to; exact = λ k. f.exact k ∙ ap (λ (b : Bool). in_range run k && b) (e k) }
