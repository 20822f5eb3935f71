-- The octant lemma, for three sides f, g and h, one on each axis. Given are weights m, n and o that satisfy two of them each: f and g, g and h, h and f.
-- With their numbers on the three sides as coordinates, they are points P, Q and R of the triangle's plane. One of them may lie in the octant f, g, h ≥ 0, or
-- the segment between two of them may enter it. Otherwise the three stand around the octant: the components of the plane's normal have one sign, so that the
-- plane faces the octant, and it meets the octant exactly when the octant's corner is not beyond it. The point of the plane with 0 on g and on h, a mean of
-- the three, is then in the octant.
use mathlib.Core.Path.{◌≡◌, sym, subst}
use mathlib.Core.Logic.{inl, inr}
use mathlib.Core.List.{List, [], ◌∷◌}
use lib.IntN.{ℤ, pos, ◌+ℤ◌, ◌*ℤ◌}
use lib.Signed.{◌<ℤ◌}
use Rattle.integers.proofs.Laws.{NN, ≤-or->}
use Rattle.integers.proofs.Expr.{Expr, num, ◌⊕◌, ◌⊗◌}
use Rattle.integers.proofs.Ring.{ring}
use Rattle.integers.proofs.Certificates.{Fact, nn, lt, nat, ps, weak, ◌⊞◌, ◌⊠◌, by-nn, by-lt}
use Rattle.geometry.specs.declared.Point.{Point}
use Rattle.geometry.specs.Geometry.{point, dot, cross}
use Rattle.reach.proofs.Vectors.{Vector, vector, det, ones, combination, dotᴱ, crossᴱ, detᴱ, totalᴱ, onesᴱ, combinationᴱ, vec, ◌at◌, negative}
use Rattle.reach.proofs.Weights.{Weights, Feasible, more, rest, rotate, combination-dot, combination-weights, crossing}

-- ---- determinants: the product rule, and the rows named in turn
det-product : (f g h u v w : Point) → det f g h *ℤ det u v w
    ≡ det (point (dot f u) (dot g u) (dot h u)) (point (dot f v) (dot g v) (dot h v)) (point (dot f w) (dot g w) (dot h w))
det-product f g h u v w =
    let F = vec 0 in let G = vec 1 in let H = vec 2 in let U = vec 3 in let S = vec 4 in let W = vec 5 in
    ring (f at g at h at u at v at w at []) (detᴱ F G H ⊗ detᴱ U S W)
    (detᴱ (vector (dotᴱ F U) (dotᴱ G U) (dotᴱ H U)) (vector (dotᴱ F S) (dotᴱ G S) (dotᴱ H S)) (vector (dotᴱ F W) (dotᴱ G W) (dotᴱ H W))) tt

det-rotate : (u v w : Point) → det u v w ≡ det v w u
det-rotate u v w = ring (u at v at w at []) (detᴱ (vec 0) (vec 1) (vec 2)) (detᴱ (vec 1) (vec 2) (vec 0)) tt

-- the weighted sum of ones is the total
some-ones : {w : Point} → Weights w → pos 0 <ℤ dot ones w
some-ones {w} h = by-lt (w at []) (num 0) (dotᴱ onesᴱ (vec 0)) (lt (num 0) (totalᴱ (vec 0)) h.some) tt

-- ---- n fails f, o fails g, and the segment of n and o does not enter the octant: then det (f, g, 1) has the sign of det (m, n, o)
turning : {f g h : Point} (m : Feasible (f ∷ g ∷ [])) (n : Feasible (g ∷ h ∷ [])) (o : Feasible (h ∷ f ∷ []))
    → dot f n.w <ℤ pos 0 → dot g o.w <ℤ pos 0 → (dot g n.w *ℤ dot f o.w) <ℤ (dot g o.w *ℤ dot f n.w)
    → pos 0 <ℤ (det f g ones *ℤ det m.w n.w o.w)
turning {f} {g} m n o fn go k =
    subst (λ t. pos 0 <ℤ t) (sym (det-product f g ones m.w n.w o.w))
    (by-lt ρ (num 0) (detᴱ M N O) (wm ⊠ lt (N.y ⊗ O.x) (O.y ⊗ N.x) k ⊞ lt (num 0) M.z (some-ones m.ok)
    ⊞ wn ⊠ (fo ⊠ gm ⊞ -go ⊠ fm) ⊞ wo ⊠ (fm ⊠ gn ⊞ gm ⊠ -fn)) tt)
  where
    -- the numbers of m, n and o on f and on g, and their totals
    on-f-g : Point → Point
    on-f-g w = point (dot f w) (dot g w) (dot ones w)

    ρ : List ℤ
    ρ = on-f-g m.w at on-f-g n.w at on-f-g o.w at []

    M : Vector
    M = vec 0

    N : Vector
    N = vec 1

    O : Vector
    O = vec 2

    fm : Fact ρ
    fm = nn M.x m.sat.0

    gm : Fact ρ
    gm = nn M.y m.sat.1.0

    gn : Fact ρ
    gn = nn N.y n.sat.0

    fo : Fact ρ
    fo = nn O.x o.sat.1.0

    -fn : Fact ρ
    -fn = negative N.x fn

    -go : Fact ρ
    -go = negative O.y go

    wm : Fact ρ
    wm = weak (ps M.z (some-ones m.ok))

    wn : Fact ρ
    wn = weak (ps N.z (some-ones n.ok))

    wo : Fact ρ
    wo = weak (ps O.z (some-ones o.ok))

-- The hypothesis on the plane: where the components of its normal have one sign, that of ε, the octant's corner is not beyond it. Any integer may stand for
-- the sign: the proof takes det (m, n, o).
module _ (f g h : Point)
    (corner : (ε : ℤ) → pos 0 <ℤ (det g h ones *ℤ ε) → pos 0 <ℤ (det h f ones *ℤ ε) → pos 0 <ℤ (det f g ones *ℤ ε) → NN (det f g h *ℤ ε))
    (m : Feasible (f ∷ g ∷ [])) (n : Feasible (g ∷ h ∷ [])) (o : Feasible (h ∷ f ∷ [])) where
  abbrev numbers : Point → Point
  numbers w = point (dot f w) (dot g w) (dot h w)

  abbrev P : Point
  P = numbers m.w

  abbrev Q : Point
  Q = numbers n.w

  abbrev R : Point
  R = numbers o.w

  -- none of the three satisfies its third side, and no segment of two enters the octant
  module _ (pz : P.z <ℤ pos 0) (qx : Q.x <ℤ pos 0) (ry : R.y <ℤ pos 0)
      (pq : (P.x *ℤ Q.z) <ℤ (Q.x *ℤ P.z)) (qr : (Q.y *ℤ R.x) <ℤ (R.y *ℤ Q.x)) (rp : (R.z *ℤ P.y) <ℤ (P.z *ℤ R.y)) where
    -- the three determinants have one sign, that of det (m, n, o), so the hypothesis says that det (f, g, h) has it too
    not_beyond : NN (det P Q R)
    not_beyond =
        let d = det m.w n.w o.w in
        let df = subst (λ t. pos 0 <ℤ (det g h ones *ℤ t)) (sym (det-rotate m.w n.w o.w)) (turning n o m ry pz rp) in
        let dg = subst (λ t. pos 0 <ℤ (det h f ones *ℤ t)) (det-rotate o.w m.w n.w) (turning o m n pz qx pq) in
        subst NN (det-product f g h m.w n.w o.w) (corner d df dg (turning m n o qx ry qr))

    -- the sum of the three with 0 on g and on h has det (P, Q, R) on f
    sum-of-three : Feasible (f ∷ g ∷ h ∷ [])
    sum-of-three = record {
      w = combination a b c m.w n.w o.w;
      ok = combination-weights (by-nn ρ A a-fact tt) (by-nn ρ B b-fact tt) (by-nn ρ C c-fact tt) m.w n.w o.w m.ok n.ok o.ok
          (by-lt ρ (num 0) (A ⊕ B ⊕ C) (a-fact ⊞ b-fact ⊞ c-fact) tt);
      sat = (on f (by-nn ρ S.x (nn (detᴱ Pᴱ Qᴱ Rᴱ) not_beyond) tt), (on g (by-nn ρ S.y (nat 0) tt), (on h (by-nn ρ S.z (nat 0) tt), tt)));
    }
      where
        a : ℤ
        a = (cross Q R).x

        b : ℤ
        b = (cross R P).x

        c : ℤ
        c = (cross P Q).x

        on : (k : Point) → NN (a *ℤ dot k m.w +ℤ b *ℤ dot k n.w +ℤ c *ℤ dot k o.w) → NN (dot k (combination a b c m.w n.w o.w))
        on k = subst NN (sym (combination-dot k m.w n.w o.w a b c))

        ρ : List ℤ
        ρ = P at Q at R at []

        Pᴱ : Vector
        Pᴱ = vec 0

        Qᴱ : Vector
        Qᴱ = vec 1

        Rᴱ : Vector
        Rᴱ = vec 2

        A : Expr
        A = (crossᴱ Qᴱ Rᴱ).x

        B : Expr
        B = (crossᴱ Rᴱ Pᴱ).x

        C : Expr
        C = (crossᴱ Pᴱ Qᴱ).x

        S : Vector
        S = combinationᴱ A B C Pᴱ Qᴱ Rᴱ

        a-fact : Fact ρ
        a-fact = nn Qᴱ.y n.sat.0 ⊠ nn Rᴱ.z o.sat.0 ⊞ nn Qᴱ.z n.sat.1.0 ⊠ negative Rᴱ.y ry

        b-fact : Fact ρ
        b-fact = lt (Rᴱ.z ⊗ Pᴱ.y) (Pᴱ.z ⊗ Rᴱ.y) rp

        c-fact : Fact ρ
        c-fact = nn Pᴱ.y m.sat.1.0 ⊠ nn Qᴱ.z n.sat.1.0 ⊞ negative Pᴱ.z pz ⊠ nn Qᴱ.y n.sat.0

  -- a sum of two of the three, or of all
  sum-of-two : P.z <ℤ pos 0 → Q.x <ℤ pos 0 → R.y <ℤ pos 0 → Feasible (f ∷ g ∷ h ∷ [])
  sum-of-two pz qx ry = elim (≤-or-> (Q.x *ℤ P.z) (P.x *ℤ Q.z)) [
    | inl k ↦ rotate (crossing m (rest (rotate n)) h qx k)
    | inr pq ↦ elim (≤-or-> (R.y *ℤ Q.x) (Q.y *ℤ R.x)) [
      | inl k ↦ crossing n (rest (rotate o)) f ry k
      | inr qr ↦ elim (≤-or-> (P.z *ℤ R.y) (R.z *ℤ P.y)) [
        | inl k ↦ rotate (rotate (crossing o (rest (rotate m)) g pz k))
        | inr rp ↦ sum-of-three pz qx ry pq qr rp
      ]
    ]
  ]

  -- one of the three, or a sum
  pub octant : Feasible (f ∷ g ∷ h ∷ [])
  octant = elim (≤-or-> (pos 0) P.z) [
    | inl k ↦ rotate (more m k)
    | inr pz ↦ elim (≤-or-> (pos 0) Q.x) [
      | inl k ↦ more n k
      | inr qx ↦ elim (≤-or-> (pos 0) R.y) [ inl k ↦ rotate (rotate (more o k)) | inr ry ↦ sum-of-two pz qx ry ]
    ]
  ]
