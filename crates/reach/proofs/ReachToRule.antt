-- A triangle that reaches a box passes the rule. The weighted mean of the corners is in the box, on the triangle's plane and on the inner side of each edge.
-- So some corner of the triangle is on the inner side of each side of the box; and the corner of the box that is farthest on the inner side of an edge, or
-- farthest above or below the plane, is on that side, because the mean is.
use mathlib.Core.Path.{◌≡◌, sym, ◌∙◌, subst}
use mathlib.Core.Logic.{inl, inr}
use mathlib.Core.List.{[], ◌∷◌}
use native.Mathlib.Omega.{arith}
use lib.IntN.{ℤ, pos, ◌+ℤ◌, ◌-ℤ◌, ◌*ℤ◌, neg_ℤ}
use lib.Signed.{◌≤ℤ◌}
use Rattle.integers.proofs.Laws.{NN, nn-pos, pos-lt, ≤-or->}
use Rattle.integers.proofs.Expr.{var, num, ◌⊗◌, ◌⊖◌, neg}
use Rattle.integers.proofs.Ring.{ring}
use Rattle.integers.proofs.Certificates.{nn, le, lt, eq, ◌⊞◌, ◌⊠◌, by_le, by-false, by-nn/}
use Rattle.integers.proofs.Orientation.{orientation, orientation-nn}
use Rattle.geometry.specs.declared.Point.{Point}
use Rattle.geometry.specs.declared.Triangle.{Triangle}
use Rattle.geometry.specs.Geometry.{point, dot, x_of, y_of, z_of}
use Rattle.overlap.specs.Rule.{Side, step, corner, normal}
use Rattle.reach.specs.Reaches.{ReachesBox}
use Rattle.reach.proofs.Vectors.{vector, total, det, ones, turn, minusᴱ, dotᴱ, crossᴱ, totalᴱ, detᴱ, onesᴱ, turnᴱ, vec, ◌at◌}
use Rattle.reach.proofs.Weights.{Weights, turn-dot, turn-weights}
use Rattle.reach.proofs.Quadrant.{Some}
use Rattle.reach.proofs.Sides.{on, sign, sign-square, against, on_sideᴱ, side, Spans, between, normal-det}
use Rattle.reach.proofs.Tests.{Cut, besideᴱ, EdgeTest, EdgeTests, Passes}

-- ---- boxes: if no corner satisfied a side, no weights would
some-corner : (f w : Point) → Weights w → NN (dot f w) → Some f
some-corner f w h s = elim (≤-or-> (pos 0) f.x) [
  | inl k ↦ inl k
  | inr f0 ↦ elim (≤-or-> (pos 0) f.y) [
    | inl k ↦ inr (inl k)
    | inr f1 ↦ elim (≤-or-> (pos 0) f.z) [
      | inl k ↦ inr (inr k)
      | inr f2 ↦
          let F = vec 0 in let W = vec 1 in
          absurd (by-false (f at w at []) (nn (dotᴱ F W) s ⊞ lt (num 0) (totalᴱ W) h.some ⊞ nn W.x h.x ⊠ lt F.x (num 0) f0
          ⊞ nn W.y h.y ⊠ lt F.y (num 0) f1 ⊞ nn W.z h.z ⊠ lt F.z (num 0) f2) tt)
    ]
  ]
]

-- ---- the farthest side: on an axis, a multiple m of the mean is at most the same multiple of a side
farthest-side : (m p d : ℤ) (x w : Point) → Spans p d x w → (α : Side) × ((m *ℤ dot w x) ≤ℤ (total w *ℤ (m *ℤ (p +ℤ step α d))))
farthest-side m p d x w s =
    let (α, h) = against m in
    let X = vec 0 in let W = vec 1 in let M = var 6 in let C = var 7 in let R = var 8 in (
      α,
      by_le (x at w at m ∷ (p +ℤ step α d) ∷ sign α ∷ []) (M ⊗ dotᴱ W X) (totalᴱ W ⊗ (M ⊗ C))
          (le (R ⊗ M) (num 0) h ⊠ nn (dotᴱ (on_sideᴱ R C X) W) (s α) ⊞ eq (M ⊗ (totalᴱ W ⊗ C ⊖ dotᴱ W X)) (R ⊗ R) (num 1) (sign-square α)) tt,
    )

-- ---- plane: the mean has the offset 0
module _ (t : Triangle) (p d w : Point) (ok : Weights w) (x : Spans p.x d.x (on t x_of) w) (y : Spans p.y d.y (on t y_of) w)
    (z : Spans p.z d.z (on t z_of) w) where
  in-plane : (ε : Side) → Cut t p d ε
  in-plane ε =
      let (α, hx) = farthest-side (sign ε *ℤ (normal t).x) p.x d.x (on t x_of) w x in
      let (β, hy) = farthest-side (sign ε *ℤ (normal t).y) p.y d.y (on t y_of) w y in
      let (γ, hz) = farthest-side (sign ε *ℤ (normal t).z) p.z d.z (on t z_of) w z in
      let V0 = vec 0 in let V1 = vec 1 in let V2 = vec 2 in let C = vec 3 in let W = vec 4 in let S = var 15 in
      let N = crossᴱ (minusᴱ V1 V0) (minusᴱ V2 V0) in (
        α,
        β,
        γ,
        by-nn/ (t.v0 at t.v1 at t.v2 at corner p d α β γ at w at sign ε ∷ []) (totalᴱ W) (S ⊗ (dotᴱ N (minusᴱ C V0) ⊖ num 0)) ok.some
            (le (S ⊗ N.x ⊗ dotᴱ W (vector V0.x V1.x V2.x)) (totalᴱ W ⊗ (S ⊗ N.x ⊗ C.x)) hx
            ⊞ le (S ⊗ N.y ⊗ dotᴱ W (vector V0.y V1.y V2.y)) (totalᴱ W ⊗ (S ⊗ N.y ⊗ C.y)) hy
            ⊞ le (S ⊗ N.z ⊗ dotᴱ W (vector V0.z V1.z V2.z)) (totalᴱ W ⊗ (S ⊗ N.z ⊗ C.z)) hz) tt,
      )

-- ---- edges: in a coordinate plane, the mean is on the inner side of the edge from corner 0 to corner 1, by the weight of corner 2
in-edge : (n p d q e : ℤ) (x y w : Point) → n ≡ det x y ones → Weights w → Spans p d x w → Spans q e y w
    → EdgeTest (orientation n) p d q e x.x y.x x.y y.y
in-edge n p d q e x y w hn ok sx sy =
    let (α, hx) = farthest-side (orientation n *ℤ neg_ℤ (y.y -ℤ y.x)) p d x w sx in
    let (β, hy) = farthest-side (orientation n *ℤ (x.y -ℤ x.x)) q e y w sy in
    let X = vec 0 in let Y = vec 1 in let W = vec 2 in let S = var 9 in let N = var 10 in let C = var 11 in let K = var 12 in
    let EX = X.y ⊖ X.x in let EY = Y.y ⊖ Y.x in
    record {
      α = α;
      β = β;
      inner = by-nn/ (x at y at w at orientation n ∷ n ∷ (p +ℤ step α d) ∷ (q +ℤ step β e) ∷ []) (totalᴱ W)
          (besideᴱ S X.x Y.x X.y Y.y C K) ok.some
          (le (S ⊗ neg EY ⊗ dotᴱ W X) (totalᴱ W ⊗ (S ⊗ neg EY ⊗ C)) hx ⊞ le (S ⊗ EX ⊗ dotᴱ W Y) (totalᴱ W ⊗ (S ⊗ EX ⊗ K)) hy
          ⊞ nn W.z ok.z ⊠ nn (S ⊗ N) (orientation-nn n) ⊞ eq (W.z ⊗ S) N (detᴱ X Y onesᴱ) hn) tt;
    }

turn-det : (x y : Point) → det x y ones ≡ det (turn x) (turn y) ones
turn-det x y = ring (x at y at []) (detᴱ (vec 0) (vec 1) onesᴱ) (detᴱ (turnᴱ (vec 0)) (turnᴱ (vec 1)) onesᴱ) tt

turn-spans : (p d : ℤ) (x w : Point) → Spans p d x w → Spans p d (turn x) (turn w)
turn-spans p d x w s α = subst NN (sym (turn-dot (side p d x α) w)) (s α)

-- the three edges, with the corners named in turn
module _ (n p d q e : ℤ) (x y w : Point) (hn : n ≡ det x y ones) (ok : Weights w) (sx : Spans p d x w) (sy : Spans q e y w) where
  in-edges : EdgeTests (orientation n) p d q e x y
  in-edges =
      let hn1 = hn ∙ turn-det x y in let sx1 = turn-spans p d x w sx in let sy1 = turn-spans q e y w sy in
      record {
        e0 = in-edge n p d q e x y w hn ok sx sy;
        e1 = in-edge n p d q e (turn x) (turn y) (turn w) hn1 (turn-weights ok) sx1 sy1;
        e2 = in-edge n p d q e (turn (turn x)) (turn (turn y)) (turn (turn w)) (hn1 ∙ turn-det (turn x) (turn y)) (turn-weights (turn-weights ok))
            (turn-spans p d (turn x) (turn w) sx1) (turn-spans q e (turn y) (turn w) sy1);
      }

-- ---- all together
module _ {t : Triangle} {p d : Point} (r : ReachesBox t p d) where
  pub reach-to-rule : Passes t p d
  reach-to-rule =
      let w = point (pos r.w0) (pos r.w1) (pos r.w2) in
      let ok : Weights w = record { x = nn-pos r.w0; y = nn-pos r.w1; z = nn-pos r.w2; some = pos-lt (omega (arith, r.some)) } in
      let x = (between t r.w0 r.w1 r.w2 x_of).0 r.x in
      let y = (between t r.w0 r.w1 r.w2 y_of).0 r.y in
      let z = (between t r.w0 r.w1 r.w2 z_of).0 r.z in
      record {
        x = λ α. some-corner (side p.x d.x (on t x_of) α) w ok (x α);
        y = λ α. some-corner (side p.y d.y (on t y_of) α) w ok (y α);
        z = λ α. some-corner (side p.z d.z (on t z_of) α) w ok (z α);
        plane = in-plane t p d w ok x y z;
        xy = in-edges (normal t).z p.x d.x p.y d.y (on t x_of) (on t y_of) w (normal-det (on t x_of) (on t y_of)) ok x y;
        yz = in-edges (normal t).x p.y d.y p.z d.z (on t y_of) (on t z_of) w (normal-det (on t y_of) (on t z_of)) ok y z;
        zx = in-edges (normal t).y p.z d.z p.x d.x (on t z_of) (on t x_of) w (normal-det (on t z_of) (on t x_of)) ok z x;
      }
