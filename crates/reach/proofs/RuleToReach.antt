-- A triangle that passes the rule reaches the box. The tests of the rule are the hypotheses of the three lemmas: two sides of different axes are satisfied
-- together by the quadrant lemma (boxes and edges), three by the octant lemma (plane), and all six by the slab lemma.
use mathlib.Core.Path.{◌≡◌}
use mathlib.Core.List.{[], ◌∷◌}
use native.Mathlib.Omega.{arith}
use lib.IntN.{ℤ, pos, negsuc, ◌+ℤ◌, ◌-ℤ◌, ◌*ℤ◌}
use lib.Signed.{◌≤ℤ◌, ◌<ℤ◌}
use Rattle.integers.proofs.Laws.{NN, lt-pos}
use Rattle.integers.proofs.Expr.{var, num, ◌⊗◌, ◌⊖◌, neg}
use Rattle.integers.proofs.Certificates.{nn, le, eq, ps, weak, sq, ◌⊞◌, ◌⊠◌, by-nn, by_le}
use Rattle.integers.proofs.Orientation.{orientation, orientation-nn}
use Rattle.geometry.specs.declared.Point.{Point}
use Rattle.geometry.specs.declared.Triangle.{Triangle}
use Rattle.geometry.specs.Geometry.{point, dot, x_of, y_of, z_of}
use Rattle.overlap.specs.Rule.{Side, low, high, step, corner, offset}
use Rattle.reach.specs.Reaches.{ReachesBox}
use Rattle.reach.proofs.Vectors.{vector, det, ones, minusᴱ, dotᴱ, crossᴱ, detᴱ, onesᴱ, vec, ◌at◌}
use Rattle.reach.proofs.Weights.{Weights, Feasible}
use Rattle.reach.proofs.Slab.{six-sides}
use Rattle.reach.proofs.Quadrant.{Some, IsSign, plus, minus, Crosses, quadrant}
use Rattle.reach.proofs.Octant.{octant}
use Rattle.reach.proofs.Sides.{on, sign, sign-square, against, on_side, on_sideᴱ, side, each-side, Size, facing, inside, between, Spans, normal-det}
use Rattle.reach.proofs.Tests.{orientation-sign, besideᴱ, EdgeTest, EdgeTests, Passes}

-- ---- two sides: the edges of the triangle, seen from the sides α and β
sign-sign : (α : Side) → IsSign (sign α)
sign-sign low = plus
sign-sign high = minus

sign-product : {s t : ℤ} → IsSign s → IsSign t → IsSign (s *ℤ t)
sign-product plus plus = plus
sign-product plus minus = minus
sign-product minus plus = minus
sign-product minus minus = plus

module _ (α β : Side) {σ p d q e : ℤ} (hd : NN d) (he : NN e) where
  -- Some corner of the rectangle is on the inner side of the edge. Where the edge's inward normal has no positive component, as seen from the sides α and β,
  -- the corner on these sides is the farthest on the inner side.
  crosses : {x y x' y' : ℤ} → EdgeTest σ p d q e x y x' y'
      → Crosses (σ *ℤ (sign α *ℤ sign β)) (sign α *ℤ (x -ℤ (p +ℤ step α d))) (sign β *ℤ (y -ℤ (q +ℤ step β e)))
      (sign α *ℤ (x' -ℤ (p +ℤ step α d))) (sign β *ℤ (y' -ℤ (q +ℤ step β e)))
  crosses {x} {y} {x'} {y'} t = record {
    inner = λ f g.
        let ρ = sign α ∷ sign β ∷ σ ∷ x ∷ y ∷ x' ∷ y' ∷ (p +ℤ step α d) ∷ (q +ℤ step β e) ∷ (p +ℤ step t.α d) ∷ (q +ℤ step t.β e) ∷ [] in
        let A = var 0 in let B = var 1 in let S = var 2 in let X = var 3 in let Y = var 4 in let X' = var 5 in let Y' = var 6 in
        let C = var 7 in let K = var 8 in let C' = var 9 in let K' = var 10 in
        let FI = A ⊗ (X ⊖ C) in let GI = B ⊗ (Y ⊖ K) in let FJ = A ⊗ (X' ⊖ C) in let GJ = B ⊗ (Y' ⊖ K) in let T = S ⊗ (A ⊗ B) in
        by_le ρ (T ⊗ (FJ ⊗ GI ⊖ GJ ⊗ FI)) (num 0)
        (sq (A ⊗ B) ⊠ nn (besideᴱ S X Y X' Y' C' K') t.inner
        ⊞ le (T ⊗ (FJ ⊖ FI)) (num 0) f ⊠ nn (B ⊗ (K' ⊖ K)) (inside q e he β t.β)
        ⊞ le (T ⊗ (GI ⊖ GJ)) (num 0) g ⊠ nn (A ⊗ (C' ⊖ C)) (inside p d hd α t.α)) tt;
  }

two-sides : (α β : Side) {n p d q e : ℤ} {x y : Point} → NN d → NN e → n ≡ det x y ones → EdgeTests (orientation n) p d q e x y
    → Some (side p d x α) → Some (side q e y β) → Feasible (side p d x α ∷ side q e y β ∷ [])
two-sides α β {n} {p} {d} {q} {e} {x} {y} hd he hn t sx sy =
    quadrant (sign-product (orientation-sign n) (sign-product (sign-sign α) (sign-sign β))) (record {
      turns =
          let X = vec 0 in let Y = vec 1 in let A = var 6 in let B = var 7 in let S = var 8 in let C = var 9 in let K = var 10 in let N = var 11 in
          by-nn (x at y at sign α ∷ sign β ∷ orientation n ∷ (p +ℤ step α d) ∷ (q +ℤ step β e) ∷ n ∷ [])
          (S ⊗ (A ⊗ B) ⊗ detᴱ (on_sideᴱ A C X) (on_sideᴱ B K Y) onesᴱ)
          (sq (A ⊗ B) ⊠ (nn (S ⊗ N) (orientation-nn n) ⊞ eq S N (detᴱ X Y onesᴱ) hn)) tt;
      e0 = crosses α β hd he t.e0;
      e1 = crosses α β hd he t.e1;
      e2 = crosses α β hd he t.e2;
    }) sx sy

-- ---- three sides: the plane of the triangle, seen from the corner c of the box on these sides
-- a corner of the box on the wanted side of the plane
cut : {t : Triangle} {p d : Point} → Passes t p d → (s : ℤ)
    → (α : Side) × (β : Side) × (γ : Side) × ((s *ℤ offset t (corner p d α β γ)) ≤ℤ pos 0)
cut {t} {p} {d} o s =
    let (ε, h) = against s in let (α, β, γ, k) = o.plane ε in
    let S = var 0 in let O = var 1 in let R = var 2 in (
      α,
      β,
      γ,
      by_le (s ∷ offset t (corner p d α β γ) ∷ sign ε ∷ []) (S ⊗ O) (num 0)
          (le (R ⊗ S) (num 0) h ⊠ nn (R ⊗ (O ⊖ num 0)) k ⊞ eq (neg (S ⊗ O)) (R ⊗ R) (num 1) (sign-square ε)) tt,
    )

-- A point q of the box that is on the wanted side of the plane shows that c is too: where the plane faces the octant, the offset does not grow from q to c.
-- Of the numbers on the three sides, the determinants are, up to signs, the components of the normal and the offset of c.
corner-inside : (t : Triangle) (c q : Point) (a b e ε : ℤ)
    → NN (a *ℤ (q.x -ℤ c.x)) → NN (b *ℤ (q.y -ℤ c.y)) → NN (e *ℤ (q.z -ℤ c.z)) → (a *ℤ b *ℤ e *ℤ ε *ℤ offset t q) ≤ℤ pos 0
    → pos 0 <ℤ (det (on_side b c.y (on t y_of)) (on_side e c.z (on t z_of)) ones *ℤ ε)
    → pos 0 <ℤ (det (on_side e c.z (on t z_of)) (on_side a c.x (on t x_of)) ones *ℤ ε)
    → pos 0 <ℤ (det (on_side a c.x (on t x_of)) (on_side b c.y (on t y_of)) ones *ℤ ε)
    → NN (det (on_side a c.x (on t x_of)) (on_side b c.y (on t y_of)) (on_side e c.z (on t z_of)) *ℤ ε)
corner-inside t c q a b e ε qx qy qz off nf ng nh =
    let V0 = vec 0 in let V1 = vec 1 in let V2 = vec 2 in let C = vec 3 in let Q = vec 4 in
    let A = var 15 in let B = var 16 in let E = var 17 in let U = var 18 in
    let F = on_sideᴱ A C.x (vector V0.x V1.x V2.x) in
    let G = on_sideᴱ B C.y (vector V0.y V1.y V2.y) in
    let H = on_sideᴱ E C.z (vector V0.z V1.z V2.z) in
    by-nn (t.v0 at t.v1 at t.v2 at c at q at a ∷ b ∷ e ∷ ε ∷ []) (detᴱ F G H ⊗ U)
    (le (A ⊗ B ⊗ E ⊗ U ⊗ dotᴱ (crossᴱ (minusᴱ V1 V0) (minusᴱ V2 V0)) (minusᴱ Q V0)) (num 0) off
    ⊞ weak (ps (detᴱ G H onesᴱ ⊗ U) nf) ⊠ nn (A ⊗ (Q.x ⊖ C.x)) qx
    ⊞ weak (ps (detᴱ H F onesᴱ ⊗ U) ng) ⊠ nn (B ⊗ (Q.y ⊖ C.y)) qy
    ⊞ weak (ps (detᴱ F G onesᴱ ⊗ U) nh) ⊠ nn (E ⊗ (Q.z ⊖ C.z)) qz) tt

-- ---- six sides
module _ {t : Triangle} {p d : Point} where
  -- weights that satisfy them are those of a triangle that reaches the box
  pub to-reach : (u v w : ℤ) → Weights (point u v w)
      → Spans p.x d.x (on t x_of) (point u v w) → Spans p.y d.y (on t y_of) (point u v w) → Spans p.z d.z (on t z_of) (point u v w)
      → ReachesBox t p d
  to-reach (pos u) (pos v) (pos w) h x y z = record {
    w0 = u;
    w1 = v;
    w2 = w;
    some = omega (arith, lt-pos h.some);
    x = (between t u v w x_of).1 x;
    y = (between t u v w y_of).1 y;
    z = (between t u v w z_of).1 z;
  }
  to-reach (pos u) (pos v) (negsuc w) h x y z = absurd h.z.le
  to-reach (pos u) (negsuc v) w h x y z = absurd h.y.le
  to-reach (negsuc u) v w h x y z = absurd h.x.le

  module _ (size : Size d) (o : Passes t p d) where
    abbrev f : Side → Point
    f = side p.x d.x (on t x_of)

    abbrev g : Side → Point
    g = side p.y d.y (on t y_of)

    abbrev h : Side → Point
    h = side p.z d.z (on t z_of)

    three-sides : (α β γ : Side) → Feasible (f α ∷ g β ∷ h γ ∷ [])
    three-sides α β γ = octant (f α) (g β) (h γ) plane
        (two-sides α β size.x size.y (normal-det (on t x_of) (on t y_of)) o.xy (o.x α) (o.y β))
        (two-sides β γ size.y size.z (normal-det (on t y_of) (on t z_of)) o.yz (o.y β) (o.z γ))
        (two-sides γ α size.z size.x (normal-det (on t z_of) (on t x_of)) o.zx (o.z γ) (o.x α))
      where
        plane : (ε : ℤ) → pos 0 <ℤ (det (g β) (h γ) ones *ℤ ε) → pos 0 <ℤ (det (h γ) (f α) ones *ℤ ε) → pos 0 <ℤ (det (f α) (g β) ones *ℤ ε)
            → NN (det (f α) (g β) (h γ) *ℤ ε)
        plane ε =
            let (α', β', γ', off) = cut o (sign α *ℤ sign β *ℤ sign γ *ℤ ε) in
            corner-inside t (corner p d α β γ) (corner p d α' β' γ') (sign α) (sign β) (sign γ) ε
            (inside p.x d.x size.x α α') (inside p.y d.y size.y β β') (inside p.z d.z size.z γ γ') off

    pub rule-to-reach : ReachesBox t p d
    rule-to-reach =
        let m = six-sides {f = f} {g = g} {h = h} (facing p.x d.x (on t x_of) size.x) (facing p.y d.y (on t y_of) size.y)
        (facing p.z d.z (on t z_of) size.z) three-sides in
        let (fl, (fh, (gl, (gh, (hl, (hh, _)))))) = m.sat in
        to-reach m.w.x m.w.y m.w.z m.ok (each-side (λ α. NN (dot (f α) m.w)) fl fh)
        (each-side (λ α. NN (dot (g α) m.w)) gl gh) (each-side (λ α. NN (dot (h α) m.w)) hl hh)
