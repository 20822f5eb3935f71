-- Grids of cells. The cells of a grid cover its closed box, so a mean in the box is in a cell. Hence a point in common of a leg, with its ends inside the
-- grid, and a triangle lies in a cell that both reach.
use mathlib.Core.Path.{◌≡◌, sym}
use mathlib.Core.Logic.{inl, inr}
use mathlib.Core.List.{[], ◌∷◌}
use Prim.Native.Nat.{ℕ, zero, suc, ◌+◌, ◌<◌}
use native.Mathlib.Numerals.{add-one}
use native.Mathlib.Omega.{arith}
use lib.IntN.{ℤ, pos, ◌+ℤ◌, ◌*ℤ◌}
use lib.Signed.{◌≤ℤ◌}
use Rattle.integers.proofs.Laws.{nn-pos, pos-lt, <→≤, ≤-or->}
use Rattle.integers.proofs.Expr.{var, num, ◌⊕◌, ◌⊗◌}
use Rattle.integers.proofs.Certificates.{nn, le, eq, ◌⊞◌, ◌⊠◌, by_le, by-le/}
use Rattle.geometry.specs.declared.Point.{Point}
use Rattle.geometry.specs.declared.Triangle.{Triangle}
use Rattle.geometry.specs.Geometry.{Axis, x_of, y_of, z_of, cube}
use Rattle.grid.specs.declared.Grid.{Grid}
use Rattle.grid.specs.Grid.{cell_corner, grid_extent}
use Rattle.reach.specs.Reaches.{Between, weighted_sum_leg, Reaches, LegReaches, CommonPoint}
use Rattle.reach.specs.Inner.{InsideOn, InsideGrid}

-- there are cells, and their edge is not negative
pub record Proper (g : Grid) : Type 0 where
  pub x : 0 < g.nx
  pub y : 0 < g.ny
  pub z : 0 < g.nz
  pub edge : pos 0 ≤ℤ g.edge

-- P holds for the lowest corner of some cell of the grid
pub record SomeCell (g : Grid) (P : Point → Type 0) : Type 0 where
  pub i : ℕ
  pub j : ℕ
  pub k : ℕ
  pub i-in : i < g.nx
  pub j-in : j < g.ny
  pub k-in : k < g.nz
  pub holds : P (cell_corner g i j k)

weaken : {g : Grid} {P Q : Point → Type 0} → SomeCell g P → ((p : Point) → P p → Q p) → SomeCell g Q
weaken {g} c f = record {
  i = c.i;
  j = c.j;
  k = c.k;
  i-in = c.i-in;
  j-in = c.j-in;
  k-in = c.k-in;
  holds = f (cell_corner g c.i c.j c.k) c.holds;
}

-- ---- on one axis: a mean s ÷ u that is between the ends of n cells of the size e, from o on, is between the ends of one of them
record Slot (n : ℕ) (o e s u : ℤ) : Type 0 where
  i : ℕ
  small : i < n
  from : ((o +ℤ pos i *ℤ e) *ℤ u) ≤ℤ s
  to : s ≤ℤ ((o +ℤ pos i *ℤ e +ℤ e) *ℤ u)

slot : (n : ℕ) (o e s u : ℤ) → 0 < n → (o *ℤ u) ≤ℤ s → s ≤ℤ ((o +ℤ pos n *ℤ e) *ℤ u) → Slot n o e s u
slot zero o e s u h f t = absurd (omega arith)
slot (suc zero) o e s u h f t =
    let ρ = o ∷ e ∷ s ∷ u ∷ [] in let O = var 0 in let E = var 1 in let S = var 2 in let U = var 3 in
    record {
      i = 0;
      small = omega arith;
      from = by_le ρ ((O ⊕ num 0 ⊗ E) ⊗ U) S (le (O ⊗ U) S f) tt;
      to = by_le ρ S ((O ⊕ num 0 ⊗ E ⊕ E) ⊗ U) (le S ((O ⊕ num 1 ⊗ E) ⊗ U) t) tt;
    }
slot (suc (suc n)) o e s u h f t = elim (≤-or-> s ((o +ℤ pos (suc n) *ℤ e) *ℤ u)) [
  | inl k ↦ let r = slot (suc n) o e s u (omega arith) f k in record { i = r.i; small = omega (arith, r.small); from = r.from; to = r.to }
  | inr k ↦
      let O = var 0 in let E = var 1 in let S = var 2 in let U = var 3 in let N = var 4 in
      record {
        i = suc n;
        small = omega arith;
        from = <→≤ k;
        to = by_le (o ∷ e ∷ s ∷ u ∷ pos (suc n) ∷ []) S ((O ⊕ N ⊗ E ⊕ E) ⊗ U) (le S ((O ⊕ (N ⊕ num 1) ⊗ E) ⊗ U) (rw (← add-one (suc n)) at t)) tt;
      }
]

-- ---- on three
-- a mean with the weighted sums x, y, z and the total w is in the box
abbrev MeanIn : (w : ℕ) (x y z : ℤ) → (p d : Point) → Type 0
MeanIn w x y z p d = Between p d w x_of x × (Between p d w y_of y × Between p d w z_of z)

mean-cell : {g : Grid} {w : ℕ} {x y z : ℤ} → Proper g → Between g.origin (grid_extent g) w x_of x → Between g.origin (grid_extent g) w y_of y
    → Between g.origin (grid_extent g) w z_of z → SomeCell g (λ p. MeanIn w x y z p (cube g.edge))
mean-cell {g} {w} {x} {y} {z} proper bx by bz =
    let sx = slot g.nx g.origin.x g.edge x (pos w) proper.x bx.from bx.to in
    let sy = slot g.ny g.origin.y g.edge y (pos w) proper.y by.from by.to in
    let sz = slot g.nz g.origin.z g.edge z (pos w) proper.z bz.from bz.to in
    record {
      i = sx.i;
      j = sy.i;
      k = sz.i;
      i-in = sx.small;
      j-in = sy.small;
      k-in = sz.small;
      holds = (record { from = sx.from; to = sx.to }, (record { from = sy.from; to = sy.to }, record { from = sz.from; to = sz.to }));
    }

-- ---- a point in common
-- a leg with its ends in the grid has its means there
leg-inside : {g : Grid} {a b : Point} {c : Axis} (l0 l1 : ℕ) → InsideOn g a c → InsideOn g b c
    → Between g.origin (grid_extent g) (l0 + l1) c (weighted_sum_leg a b l0 l1 c)
leg-inside {g} {a} {b} {c} l0 l1 ia ib =
    let ρ = c a ∷ c b ∷ pos l0 ∷ pos l1 ∷ c g.origin ∷ (c g.origin +ℤ c (grid_extent g)) ∷ [] in
    let A = var 0 in let B = var 1 in let L = var 2 in let M = var 3 in let O = var 4 in let Q = var 5 in
    record {
      from = by_le ρ (O ⊗ (L ⊕ M)) (L ⊗ A ⊕ M ⊗ B) (nn L (nn-pos l0) ⊠ le O A ia.from ⊞ nn M (nn-pos l1) ⊠ le O B ib.from) tt;
      to = by_le ρ (L ⊗ A ⊕ M ⊗ B) (Q ⊗ (L ⊕ M)) (nn L (nn-pos l0) ⊠ le A Q ia.to ⊞ nn M (nn-pos l1) ⊠ le B Q ib.to) tt;
    }

-- the mean s ÷ u is the mean r ÷ v: what the one is between, the other is
same-mean : {p d : Point} {u v : ℕ} {c : Axis} {s r : ℤ} → 0 < u → pos v *ℤ s ≡ pos u *ℤ r → Between p d u c s → Between p d v c r
same-mean {p} {d} {u} {v} {c} {s} {r} hu same b =
    let ρ = s ∷ r ∷ pos u ∷ pos v ∷ c p ∷ (c p +ℤ c d) ∷ [] in
    let S = var 0 in let R = var 1 in let U = var 2 in let W = var 3 in let P = var 4 in let Q = var 5 in
    record {
      from = by-le/ ρ U (P ⊗ W) R (pos-lt hu) (nn W (nn-pos v) ⊠ le (P ⊗ U) S b.from ⊞ eq (num 1) (W ⊗ S) (U ⊗ R) same) tt;
      to = by-le/ ρ U R (Q ⊗ W) (pos-lt hu) (nn W (nn-pos v) ⊠ le S (Q ⊗ U) b.to ⊞ eq (num 1) (U ⊗ R) (W ⊗ S) (sym same)) tt;
    }

pub common-cell : (g : Grid) (a b : Point) (t : Triangle) → Proper g → InsideGrid g a → InsideGrid g b → CommonPoint a b t
    → SomeCell g (λ p. LegReaches a b p g.edge × Reaches t p g.edge)
common-cell g a b t proper ia ib m =
    let l0 = m.l0 in let l1 = m.l1 in
    weaken (mean-cell proper (leg-inside l0 l1 ia.x ib.x) (leg-inside l0 l1 ia.y ib.y) (leg-inside l0 l1 ia.z ib.z))
    (λ p (x, (y, z)). (
      record { w0 = l0; w1 = l1; some = m.some-leg; x = x; y = y; z = z },
      record {
        w0 = m.w0;
        w1 = m.w1;
        w2 = m.w2;
        some = m.some-triangle;
        x = same-mean m.some-leg m.x.same x;
        y = same-mean m.some-leg m.y.same y;
        z = same-mean m.some-leg m.z.same z;
      },
    ))
