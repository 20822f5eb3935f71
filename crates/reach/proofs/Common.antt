-- A point in common, where it has to be found: a leg that ends on a corner of a triangle has it in common with the triangle.
--     common-at       weights of the leg and of the triangle that give one and the same point
--     common-by       whatever weights satisfy the equations: nothing else is asked
--     corner-common   an end that is a corner
-- Assumes nothing.
use mathlib.Core.List.{List, [], ◌∷◌}
use mathlib.Core.Logic.{◌⊎◌, inl, inr}
use mathlib.Core.Path.{◌≡◌, refl, ap, sym, ◌∙◌}
use Prim.Native.Nat.{ℕ, ◌+◌, ◌<◌}
use native.Mathlib.Omega.{arith}
use lib.IntN.{ℤ, pos, ◌*ℤ◌}
use Rattle.integers.proofs.Expr.{var, num, ◌⊕◌, ◌⊗◌}
use Rattle.integers.proofs.Ring.{ring}
use Rattle.geometry.specs.declared.Point.{Point}
use Rattle.geometry.specs.declared.Triangle.{Triangle}
use Rattle.geometry.specs.Geometry.{Axis, x_of, y_of, z_of}
use Rattle.reach.specs.Reaches.{weighted_sum, weighted_sum_leg, CommonOn, CommonPoint}

-- Weights of a leg, or of a triangle, that give the point p.
pub record LegAt (a b p : Point) : Type 0 where
  pub l0 : ℕ
  pub l1 : ℕ
  pub some : 0 < l0 + l1
  pub sum : (c : Axis) → weighted_sum_leg a b l0 l1 c ≡ c p *ℤ pos (l0 + l1)

pub record TriangleAt (t : Triangle) (p : Point) : Type 0 where
  pub w0 : ℕ
  pub w1 : ℕ
  pub w2 : ℕ
  pub some : 0 < w0 + w1 + w2
  pub sum : (c : Axis) → weighted_sum t w0 w1 w2 c ≡ c p *ℤ pos (w0 + w1 + w2)

exchange : (v q l : ℤ) → v *ℤ (q *ℤ l) ≡ l *ℤ (q *ℤ v)
exchange v q l =
    let V₀ = var 0 in let Q = var 1 in let L = var 2 in
    ring (v ∷ q ∷ l ∷ []) (V₀ ⊗ (Q ⊗ L)) (L ⊗ (Q ⊗ V₀)) tt

pub common-at : {a b p : Point} {t : Triangle} → LegAt a b p → TriangleAt t p → CommonPoint a b t
common-at {a} {b} {p} {t} u w = record {
  l0 = u.l0;
  l1 = u.l1;
  w0 = w.w0;
  w1 = w.w1;
  w2 = w.w2;
  some-leg = omega (arith, u.some);
  some-triangle = omega (arith, w.some);
  x = on x_of;
  y = on y_of;
  z = on z_of;
}
  where
    on : (c : Axis) → CommonOn a b t u.l0 u.l1 w.w0 w.w1 w.w2 c
    on c =
        let V₀ = pos (w.w0 + w.w1 + w.w2) in
        let L = pos (u.l0 + u.l1) in
        record { same = ap (◌*ℤ◌ V₀) (u.sum c) ∙ exchange V₀ (c p) L ∙ ap (◌*ℤ◌ L) (sym (w.sum c)) }

pub common-by : (a b : Point) (t : Triangle) (l0 l1 w0 w1 w2 : ℕ) → 0 < l0 + l1 → 0 < w0 + w1 + w2
    → ((c : Axis) → pos (w0 + w1 + w2) *ℤ weighted_sum_leg a b l0 l1 c ≡ pos (l0 + l1) *ℤ weighted_sum t w0 w1 w2 c) → CommonPoint a b t
common-by a b t l0 l1 w0 w1 w2 u v same = record {
  l0 = l0;
  l1 = l1;
  w0 = w0;
  w1 = w1;
  w2 = w2;
  some-leg = u;
  some-triangle = v;
  x = record { same = same x_of };
  y = record { same = same y_of };
  z = record { same = same z_of };
}

-- ---- ends and corners: all weight on one of them
one : {x y : ℤ} {n : ℕ} → n ≡ 1 → x ≡ y → x ≡ y *ℤ pos n
one {x} {y} h e = rw h (e ∙ ring (y ∷ []) (var 0) (var 0 ⊗ num 1) tt)

leg-end : (a b p : Point) → (p ≡ a) ⊎ (p ≡ b) → LegAt a b p
leg-end a b p = go
  where
    on : (u v : ℕ) → u + v ≡ 1 → ((c : Axis) → weighted_sum_leg a b u v c ≡ c p) → LegAt a b p
    on u v h sum = record { l0 = u; l1 = v; some = omega arith; sum = λ c. one h (sum c) }

    go : (p ≡ a) ⊎ (p ≡ b) → LegAt a b p
    go (inl e) = on 1 0 refl (λ c. rw e (ring (c a ∷ c b ∷ []) (num 1 ⊗ var 0 ⊕ num 0 ⊗ var 1) (var 0) tt))
    go (inr e) = on 0 1 refl (λ c. rw e (ring (c a ∷ c b ∷ []) (num 0 ⊗ var 0 ⊕ num 1 ⊗ var 1) (var 1) tt))

triangle-corner : (t : Triangle) (p : Point) → (p ≡ t.v0) ⊎ ((p ≡ t.v1) ⊎ (p ≡ t.v2)) → TriangleAt t p
triangle-corner t p = go
  where
    on : (u v w : ℕ) → u + v + w ≡ 1 → ((c : Axis) → weighted_sum t u v w c ≡ c p) → TriangleAt t p
    on u v w h sum = record { w0 = u; w1 = v; w2 = w; some = omega arith; sum = λ c. one h (sum c) }

    corners : Axis → List ℤ
    corners c = c t.v0 ∷ c t.v1 ∷ c t.v2 ∷ []

    go : (p ≡ t.v0) ⊎ ((p ≡ t.v1) ⊎ (p ≡ t.v2)) → TriangleAt t p
    go (inl e) = on 1 0 0 refl (λ c. rw e (ring (corners c) (num 1 ⊗ var 0 ⊕ num 0 ⊗ var 1 ⊕ num 0 ⊗ var 2) (var 0) tt))
    go (inr (inl e)) = on 0 1 0 refl (λ c. rw e (ring (corners c) (num 0 ⊗ var 0 ⊕ num 1 ⊗ var 1 ⊕ num 0 ⊗ var 2) (var 1) tt))
    go (inr (inr e)) = on 0 0 1 refl (λ c. rw e (ring (corners c) (num 0 ⊗ var 0 ⊕ num 0 ⊗ var 1 ⊕ num 1 ⊗ var 2) (var 2) tt))

pub corner-common : (a b p : Point) (t : Triangle) → (p ≡ a) ⊎ (p ≡ b) → (p ≡ t.v0) ⊎ ((p ≡ t.v1) ⊎ (p ≡ t.v2)) → CommonPoint a b t
corner-common a b p t end corner = common-at (leg-end a b p end) (triangle-corner t p corner)
