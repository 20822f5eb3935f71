-- A range of cells on an axis, from two quotients that are rounded down. With a step e > 0 from box to box, a box's extent d, and i cells before it,
--     least ≤ o + i·e + d   says that  −i ≤ ⌊(o + d − least) / e⌋,   and   o + i·e ≤ greatest   says that  i ≤ ⌊(greatest − o) / e⌋.
--     picks        the range that the code computes is the one asked for
--     picks-one    no other range is
use mathlib.Core.Path.{◌≡◌, refl, sym, ap, ap₂, ◌∙◌}
use mathlib.Core.Bool.{Bool, true, false, ◌&&◌, and-false, and-eq-true_iff}
use mathlib.Core.List.{List, [], ◌∷◌}
use Prim.Native.Nat.{ℕ, ◌<◌, ◌≤◌}
use native.Mathlib.Nat.{lt_of_not-le, le_of_suc-le-suc}
use native.Mathlib.Omega.{arith}
use borrow.Author.Tests.{ltb-true, leb-true, lt-ltb, le-leb}
use lib.Dec.{leb, ltb}
use lib.IntN.{ℤ, pos, neg_ℤ, ◌+ℤ◌, ◌-ℤ◌, ◌*ℤ◌}
use lib.Signed.{◌≤ℤ◌, ◌<ℤ◌}
use Rattle.std.specs.Int.{int_min, int_max}
use Rattle.integers.specs.Inner.{Floor}
use Rattle.integers.proofs.Truth.{same_truth}
use Rattle.integers.proofs.Omega.{zarith, +!, neg!, le-true, true-le}
use Rattle.integers.proofs.Expr.{Expr, var, neg, ◌⊕◌, ◌⊖◌, ◌⊗◌}
use Rattle.integers.proofs.Certificates.{le, by_le}
use Rattle.integers.proofs.Quotients.{≤-floor, floor-≤}
use Rattle.integers.proofs.MinMax.{min!, max! }
use Rattle.grid.specs.declared.CellRange.{CellRange}
use Rattle.ranges.specs.Range.{Picks, ends_from, begins_by}

-- the same second test, and where it holds the same first one
both : (a b c d : Bool) → (b ≡ true → a ≡ c) → b ≡ d → (a && b) ≡ (c && d)
both a true c d f e = ap₂ ◌&&◌ (f refl) e
both a false c d f e = and-false a ∙ sym (and-false c) ∙ ap (λ (t : Bool). c && t) e

-- the number of a cell, the axis's origin, the step, the ends of the triangle's box, and the extent
abbrev I : Expr
I = var 0

abbrev O : Expr
O = var 1

abbrev E : Expr
E = var 2

abbrev L : Expr
L = var 3

abbrev G : Expr
G = var 4

abbrev D : Expr
D = var 5

module _ (least greatest o e d : ℤ) (positive : pos 0 <ℤ e) where
  abbrev ρ : ℕ → List ℤ
  ρ i = pos i ∷ o ∷ e ∷ least ∷ greatest ∷ d ∷ []

  -- each side of the box test, as an order of the cell's number
  module _ {p : ℤ} (before : Floor (o +ℤ d -ℤ least) e p) (i : ℕ) where
    low→ : least ≤ℤ (o +ℤ pos i *ℤ e +ℤ d) → neg_ℤ p ≤ℤ pos i
    low→ h =
        let k : neg_ℤ (pos i) ≤ℤ p = ≤-floor positive before (by_le (ρ i) (E ⊗ neg I) (O ⊕ D ⊖ L) (le L (O ⊕ I ⊗ E ⊕ D) h) tt) in
        omega (zarith, neg! (pos i), neg! p)

    →low : neg_ℤ p ≤ℤ pos i → least ≤ℤ (o +ℤ pos i *ℤ e +ℤ d)
    →low h =
        let k : neg_ℤ (pos i) ≤ℤ p = omega (zarith, neg! (pos i), neg! p) in
        by_le (ρ i) L (O ⊕ I ⊗ E ⊕ D) (le (E ⊗ neg I) (O ⊕ D ⊖ L) (floor-≤ positive before k)) tt

  module _ {q : ℤ} (last : Floor (greatest -ℤ o) e q) (i : ℕ) where
    high→ : (o +ℤ pos i *ℤ e) ≤ℤ greatest → pos i ≤ℤ q
    high→ h = ≤-floor positive last (by_le (ρ i) (E ⊗ I) (G ⊖ O) (le (O ⊕ I ⊗ E) G h) tt)

    →high : pos i ≤ℤ q → (o +ℤ pos i *ℤ e) ≤ℤ greatest
    →high h = by_le (ρ i) (O ⊕ I ⊗ E) G (le (E ⊗ I) (G ⊖ O) (floor-≤ positive last h)) tt

  -- The range starts at −p or at 0, and ends after q or at n, where that is not before 0.
  module _ (n : ℕ) {p q : ℤ} {first end : ℕ} (before : Floor (o +ℤ d -ℤ least) e p) (last : Floor (greatest -ℤ o) e q)
      (end_is : pos end ≡ int_max (int_min (q +ℤ pos 1) (pos n)) (pos 0))
      (first-is : pos first ≡ int_min (int_max (neg_ℤ p) (pos 0)) (pos end)) where
    -- the cells below the end
    upto : (i : ℕ) → i < n → ltb i end ≡ begins_by greatest o e i
    upto i h =
        same_truth (ltb i end) (begins_by greatest o e i)
        (λ t. true-le _ _ (→high last i (omega (zarith, ltb-true i end t, max! (int_min (q +ℤ pos 1) (pos n)) (pos 0), min! (q +ℤ pos 1) (pos n), +! q (pos 1)))))
        (λ t.
        let l = high→ last i (le-true _ _ t) in
        lt-ltb i end (omega (zarith, max! (int_min (q +ℤ pos 1) (pos n)) (pos 0), min! (q +ℤ pos 1) (pos n), +! q (pos 1))))

    -- of these, the cells from the first on
    from : (i : ℕ) → i < end → leb first i ≡ ends_from least o e d i
    from i h =
        same_truth (leb first i) (ends_from least o e d i)
        (λ t. true-le _ _ (→low before i (omega (zarith, leb-true first i t, min! (int_max (neg_ℤ p) (pos 0)) (pos end), max! (neg_ℤ p) (pos 0)))))
        (λ t. let l = low→ before i (le-true _ _ t) in le-leb first i (omega (zarith, min! (int_max (neg_ℤ p) (pos 0)) (pos end), max! (neg_ℤ p) (pos 0))))

    pub picks : Picks n (ends_from least o e d) (begins_by greatest o e) (record { first = first; end = end })
    picks = record {
      ordered = omega (zarith, min! (int_max (neg_ℤ p) (pos 0)) (pos end));
      within = omega (zarith, max! (int_min (q +ℤ pos 1) (pos n)) (pos 0), min! (q +ℤ pos 1) (pos n));
      upto = upto;
      exact = λ i h. both (leb first i) (ltb i end) _ _ (λ t. from i (ltb-true i end t)) (upto i h);
    }

-- ---- one range
not-less : {a b : ℕ} → (a < b → ⊥) → b ≤ a
not-less h = le_of_suc-le-suc (lt_of_not-le h)

module _ {n : ℕ} {P Q : ℕ → Bool} where
  end-le : {r s : CellRange} → Picks n P Q r → Picks n P Q s → s.end ≤ r.end
  end-le {r} {s} p q = not-less (λ l.
      let i = r.end in
      let h : i < n = omega (arith, q.within) in
      omega (arith, ltb-true i i (p.upto i h ∙ sym (q.upto i h) ∙ lt-ltb i s.end l)))

  first-le : {r s : CellRange} → Picks n P Q r → Picks n P Q s → s.first ≤ r.first
  first-le {r} {s} p q = not-less (λ l.
      let i = r.first in
      let e : i < r.end = omega (arith, q.ordered, end-le p q) in
      let h : i < n = omega (arith, p.within) in
      let here = (and-eq-true_iff (leb i i) (ltb i r.end)).1 (le-leb i i (omega arith), lt-ltb i r.end e) in
      let (t, _) = (and-eq-true_iff (leb s.first i) (ltb i s.end)).0 (q.exact i h ∙ sym (p.exact i h) ∙ here) in
      omega (arith, leb-true s.first i t))

  -- `Picks` fixes the range, an empty one too.
  pub picks-one : {r s : CellRange} → Picks n P Q r → Picks n P Q s → r ≡ s
  picks-one {r} {s} p q =
      let f : r.first ≡ s.first = omega (arith, first-le p q, first-le q p) in
      let e : r.end ≡ s.end = omega (arith, end-le p q, end-le q p) in
      λ l. record { first = f l; end = e l }
