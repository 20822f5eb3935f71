-- The quadrant lemma, for two sides f and g of different axes. With their numbers on f and on g as coordinates, the corners of the triangle are points of a
-- plane, and weights that satisfy both sides are those of a mean in the quadrant f ≥ 0, g ≥ 0. Such weights exist if some corner satisfies f, some corner
-- satisfies g, and no edge has the quadrant beyond it.
-- Let the corners turn to the left. An edge from a corner with f alone to a corner with g alone runs up and to the left, and the quadrant's corner is not
-- beyond it, so it crosses the quadrant. If a corner with g alone comes just before a corner with f alone, the third corner decides: it is in the quadrant,
-- or it has f alone or g alone and so makes such an edge; it cannot fail both, for then an edge would have the quadrant beyond it, or the corners would turn
-- to the right. Corners that turn to the right turn to the left when f and g are exchanged.
use mathlib.Core.Path.{subst}
use mathlib.Core.Logic.{◌⊎◌, inl, inr}
use mathlib.Core.List.{List, [], ◌∷◌}
use lib.IntN.{ℤ, pos, negsuc, neg_ℤ, ◌-ℤ◌, ◌*ℤ◌}
use lib.Signed.{◌≤ℤ◌, ◌<ℤ◌}
use Rattle.integers.proofs.Laws.{NN, nn-pos, ≤_trans, ≤-or->, <→≤}
use Rattle.integers.proofs.Expr.{var, num, ◌⊗◌, ◌⊖◌, neg}
use Rattle.integers.proofs.Certificates.{nn, le, lt, nat, ◌⊞◌, ◌⊠◌, by-nn, by_le, by-lt, by-false}
use Rattle.geometry.specs.declared.Point.{Point}
use Rattle.geometry.specs.Geometry.{point, dot}
use Rattle.reach.proofs.Vectors.{Vector, vector, det, ones, turn, dotᴱ, detᴱ, totalᴱ, onesᴱ, turnᴱ, vec, ◌at◌, negative}
use Rattle.reach.proofs.Weights.{Feasible, rotate, turn-dot, turn-weights}

-- some corner satisfies the side
abbrev pub Some : Point → Type 0
Some f = NN f.x ⊎ (NN f.y ⊎ NN f.z)

-- 1 and −1
pub data IsSign : ℤ → Type 0 where
  plus : IsSign (pos 1)
  minus : IsSign (negsuc 0)

-- The edge from corner i to corner j, of corners that turn to the left (τ = 1) or to the right (τ = −1): where its inward normal has no positive component,
-- the quadrant's corner (0, 0) is on its inner side or on its line.
pub record Crosses (τ fi gi fj gj : ℤ) : Type 0 where
  pub inner : (τ *ℤ (fj -ℤ fi)) ≤ℤ pos 0 → (τ *ℤ (gi -ℤ gj)) ≤ℤ pos 0 → (τ *ℤ (fj *ℤ gi -ℤ gj *ℤ fi)) ≤ℤ pos 0

-- the corners turn to the side τ, or stand in one line, and no edge has the quadrant beyond it
pub record Oriented (τ : ℤ) (f g : Point) : Type 0 where
  pub turns : NN (τ *ℤ det f g ones)
  pub e0 : Crosses τ f.x g.x f.y g.y
  pub e1 : Crosses τ f.y g.y f.z g.z
  pub e2 : Crosses τ f.z g.z f.x g.x

-- ---- the corners named in turn
turn-some : {f : Point} → Some f → Some (turn f)
turn-some (inl h) = inr (inr h)
turn-some (inr (inl h)) = inl h
turn-some (inr (inr h)) = inr (inl h)

turn-oriented : {τ : ℤ} {f g : Point} → Oriented τ f g → Oriented τ (turn f) (turn g)
turn-oriented {τ} {f} {g} o = record {
  turns =
      let F = vec 0 in let G = vec 1 in let T = var 6 in
      by-nn (f at g at τ ∷ []) (T ⊗ detᴱ (turnᴱ F) (turnᴱ G) onesᴱ) (nn (T ⊗ detᴱ F G onesᴱ) o.turns) tt;
  e0 = o.e1;
  e1 = o.e2;
  e2 = o.e0;
}

unturn : {f g : Point} → Feasible (turn f ∷ turn g ∷ []) → Feasible (f ∷ g ∷ [])
unturn {f} {g} m =
    let w = turn (turn m.w) in
    record { w = w; ok = turn-weights (turn-weights m.ok); sat = (subst NN (turn-dot f w) m.sat.0, (subst NN (turn-dot g w) m.sat.1.0, tt)) }

-- ---- corner 0 satisfies both sides
single : {f g : Point} → NN f.x → NN g.x → Feasible (f ∷ g ∷ [])
single {f} {g} hf hg = record {
  w = point (pos 1) (pos 0) (pos 0);
  ok = record { x = nn-pos 1; y = nn-pos 0; z = nn-pos 0; some = by-lt [] (num 0) (totalᴱ E0) (nat 0) tt };
  sat = (corner0 f hf, (corner0 g hg, tt));
}
  where
    E0 : Vector
    E0 = vector (num 1) (num 0) (num 0)

    corner0 : (f : Point) → NN f.x → NN (dot f (point (pos 1) (pos 0) (pos 0)))
    corner0 f h = by-nn (f at []) (dotᴱ (vec 0) E0) (nn (var 0) h) tt

-- ---- the corners turn to the left: an edge that runs up and to the left has the quadrant's corner on its left or on its line
module _ {fi gi fj gj : ℤ} (e : Crosses (pos 1) fi gi fj gj) where
  left : fj ≤ℤ fi → gi ≤ℤ gj → (fj *ℤ gi) ≤ℤ (gj *ℤ fi)
  left hf hg =
      let ρ = fi ∷ gi ∷ fj ∷ gj ∷ [] in let FI = var 0 in let GI = var 1 in let FJ = var 2 in let GJ = var 3 in
      by_le ρ (FJ ⊗ GI) (GJ ⊗ FI) (le (num 1 ⊗ (FJ ⊗ GI ⊖ GJ ⊗ FI)) (num 0) (e.inner
      (by_le ρ (num 1 ⊗ (FJ ⊖ FI)) (num 0) (le FJ FI hf) tt) (by_le ρ (num 1 ⊗ (GI ⊖ GJ)) (num 0) (le GI GJ hg) tt))) tt

-- corner 0 satisfies f alone and corner 1 satisfies g alone: the point of the edge between them with 0 on f is in the quadrant
pair : {f g : Point} → Crosses (pos 1) f.x g.x f.y g.y → NN f.x → g.x <ℤ pos 0 → f.y <ℤ pos 0 → NN g.y → Feasible (f ∷ g ∷ [])
pair {f} {g} e f0 g0 f1 g1 =
    let ρ = f at g at [] in let F = vec 0 in let G = vec 1 in let W = vector (neg F.y) F.x (num 0) in
    record {
      w = point (neg_ℤ f.y) f.x (pos 0);
      ok = record {
        x = by-nn ρ (neg F.y) (lt F.y (num 0) f1) tt;
        y = f0;
        z = nn-pos 0;
        some = by-lt ρ (num 0) (totalᴱ W) (lt F.y (num 0) f1 ⊞ nn F.x f0) tt;
      };
      sat = (
        by-nn ρ (dotᴱ F W) (nat 0) tt,
        (by-nn ρ (dotᴱ G W) (le (F.y ⊗ G.x) (G.y ⊗ F.x) (left e (≤_trans (<→≤ f1) f0) (≤_trans (<→≤ g0) g1))) tt, tt),
      );
    }

module _ {f g : Point} (o : Oriented (pos 1) f g) (f0 : NN f.x) where
  -- corner 0 satisfies f alone, corner 1 fails both, corner 2 satisfies g alone: if corner 1 is not below corner 0, the edge from 0 to 1 has the quadrant's
  -- corner on its right; if it is, the corners turn to the right
  neither : g.x <ℤ pos 0 → f.y <ℤ pos 0 → g.y <ℤ pos 0 → f.z <ℤ pos 0 → NN g.z → ⊥
  neither g0 f1 g1 f2 g2 = elim (≤-or-> g.x g.y) [
    | inl h ↦ by-false ρ (le (F.y ⊗ G.x) (G.y ⊗ F.x) (left o.e0 (≤_trans (<→≤ f1) f0) h)
        ⊞ negative G.y g1 ⊠ nn F.x f0 ⊞ lt F.y (num 0) f1 ⊠ negative G.x g0 ⊞ lt G.x (num 0) g0) tt
    | inr h ↦ by-false ρ (nn (num 1 ⊗ detᴱ F G onesᴱ) o.turns
        ⊞ (nn F.x f0 ⊞ negative F.y f1) ⊠ (nn G.z g2 ⊞ negative G.x g0) ⊞ lt G.y G.x h ⊠ (nn F.x f0 ⊞ negative F.z f2)
        ⊞ nn F.x f0 ⊞ lt F.z (num 0) f2) tt
  ]
    where
      ρ : List ℤ
      ρ = f at g at []

      F : Vector
      F = vec 0

      G : Vector
      G = vec 1

  -- corner 0 satisfies f alone and corner 2 satisfies g alone: corner 1 decides
  across : g.x <ℤ pos 0 → f.z <ℤ pos 0 → NN g.z → Feasible (f ∷ g ∷ [])
  across g0 f2 g2 = elim (≤-or-> (pos 0) f.y) [
    | inl f1 ↦ elim (≤-or-> (pos 0) g.y) [ inl g1 ↦ unturn (single f1 g1) | inr g1 ↦ unturn (pair o.e1 f1 g1 f2 g2) ]
    | inr f1 ↦ elim (≤-or-> (pos 0) g.y) [ inl g1 ↦ pair o.e0 f0 g0 f1 g1 | inr g1 ↦ absurd (neither g0 f1 g1 f2 g2) ]
  ]

  from0 : Some g → Feasible (f ∷ g ∷ [])
  from0 s = elim (≤-or-> (pos 0) g.x) [ inl g0 ↦ single f0 g0 | inr g0 ↦ next g0 s ]
    where
      next : g.x <ℤ pos 0 → Some g → Feasible (f ∷ g ∷ [])
      next g0 (inl h) = single f0 h
      next g0 (inr (inl g1)) = elim (≤-or-> (pos 0) f.y) [ inl f1 ↦ unturn (single f1 g1) | inr f1 ↦ pair o.e0 f0 g0 f1 g1 ]
      next g0 (inr (inr g2)) = elim (≤-or-> (pos 0) f.z) [ inl f2 ↦ unturn (unturn (single f2 g2)) | inr f2 ↦ across g0 f2 g2 ]

to-the-left : {f g : Point} → Oriented (pos 1) f g → Some f → Some g → Feasible (f ∷ g ∷ [])
to-the-left o (inl h) s = from0 o h s
to-the-left o (inr (inl h)) s = unturn (from0 (turn-oriented o) h (turn-some s))
to-the-left o (inr (inr h)) s = unturn (unturn (from0 (turn-oriented (turn-oriented o)) h (turn-some (turn-some s))))

-- ---- with f and g exchanged, what turned to the right turns to the left
exchange-edge : {τ fi gi fj gj : ℤ} → Crosses τ fi gi fj gj → Crosses (neg_ℤ τ) gi fi gj fj
exchange-edge {τ} {fi} {gi} {fj} {gj} e = record {
  inner = λ hg hf.
      let ρ = τ ∷ fi ∷ gi ∷ fj ∷ gj ∷ [] in let T = var 0 in let FI = var 1 in let GI = var 2 in let FJ = var 3 in let GJ = var 4 in
      by_le ρ (neg T ⊗ (GJ ⊗ FI ⊖ FJ ⊗ GI)) (num 0) (le (T ⊗ (FJ ⊗ GI ⊖ GJ ⊗ FI)) (num 0) (e.inner
      (by_le ρ (T ⊗ (FJ ⊖ FI)) (num 0) (le (neg T ⊗ (FI ⊖ FJ)) (num 0) hf) tt)
      (by_le ρ (T ⊗ (GI ⊖ GJ)) (num 0) (le (neg T ⊗ (GJ ⊖ GI)) (num 0) hg) tt))) tt;
}

exchange : {τ : ℤ} {f g : Point} → Oriented τ f g → Oriented (neg_ℤ τ) g f
exchange {τ} {f} {g} o = record {
  turns =
      let F = vec 0 in let G = vec 1 in let T = var 6 in
      by-nn (f at g at τ ∷ []) (neg T ⊗ detᴱ G F onesᴱ) (nn (T ⊗ detᴱ F G onesᴱ) o.turns) tt;
  e0 = exchange-edge o.e0;
  e1 = exchange-edge o.e1;
  e2 = exchange-edge o.e2;
}

pub quadrant : {τ : ℤ} {f g : Point} → IsSign τ → Oriented τ f g → Some f → Some g → Feasible (f ∷ g ∷ [])
quadrant plus o sf sg = to-the-left o sf sg
quadrant minus o sf sg = rotate (to-the-left (exchange o) sg sf)
