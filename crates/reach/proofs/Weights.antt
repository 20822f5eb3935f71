-- Weights for the three corners of a triangle (barycentric coordinates, up to a factor), the sides of a box that they satisfy, and sums of weights.
-- A side of a box gives each corner a number: how far the corner is on the inner side of it. So a side is a triple f, weights are a triple w, and w
-- satisfies f when the weighted sum `dot f w` is not negative. No triangle and no box in this file: a triangle reaches a box when some weights satisfy
-- its six sides together, and the three lemmas that find such weights (`Slab`, `Quadrant`, `Octant`) are about triples only.
use mathlib.Core.Path.{◌≡◌, sym, subst}
use mathlib.Core.List.{List, [], ◌∷◌, ◌++◌}
use lib.IntN.{ℤ, pos, neg_ℤ, ◌+ℤ◌, ◌*ℤ◌, *ℤ_comm}
use lib.Signed.{◌≤ℤ◌, ◌<ℤ◌}
use Rattle.integers.proofs.Laws.{NN, nn-pos, nn-add, nn-mul, ≤-of-eq}
use Rattle.integers.proofs.Expr.{var, num, ◌⊕◌, ◌⊗◌, neg}
use Rattle.integers.proofs.Ring.{ring}
use Rattle.integers.proofs.Certificates.{nn, le, lt, ◌⊞◌, ◌⊠◌, by-nn, by-lt}
use Rattle.geometry.specs.declared.Point.{Point}
use Rattle.geometry.specs.Geometry.{dot}
use Rattle.reach.proofs.Vectors.{total, totalᴱ, dotᴱ, combination, combinationᴱ, turn, turnᴱ, vec, ◌at◌}

-- none of the weights is negative, and not all are 0
pub record Weights (w : Point) : Type 0 where
  pub x : NN w.x
  pub y : NN w.y
  pub z : NN w.z
  pub some : pos 0 <ℤ total w

-- w satisfies each of the sides
abbrev pub Satisfies : List Point → Point → Type 0
Satisfies [] w = Unit {0}
Satisfies (f ∷ fs) w = NN (dot f w) × Satisfies fs w

-- some weights satisfy all the sides together
pub record Feasible (fs : List Point) : Type 0 where
  pub w : Point
  pub ok : Weights w
  pub sat : Satisfies fs w

-- ---- the list of sides: one more, one less, the first put last
abbrev pub more : {f : Point} {fs : List Point} (m : Feasible fs) → NN (dot f m.w) → Feasible (f ∷ fs)
more m h = record { w = m.w; ok = m.ok; sat = (h, m.sat) }

abbrev pub rest : {f : Point} {fs : List Point} → Feasible (f ∷ fs) → Feasible fs
rest m = record { w = m.w; ok = m.ok; sat = m.sat.1 }

pub put_last : (f w : Point) (fs : List Point) → NN (dot f w) → Satisfies fs w → Satisfies (fs ++ (f ∷ [])) w
put_last f w [] h s = (h, tt)
put_last f w (g ∷ gs) h s = (s.0, put_last f w gs h s.1)

abbrev pub rotate : {f : Point} {fs : List Point} → Feasible (f ∷ fs) → Feasible (fs ++ (f ∷ []))
rotate {f} {fs} m = record { w = m.w; ok = m.ok; sat = put_last f m.w fs m.sat.0 m.sat.1 }

-- ---- sums of multiples: what satisfies a side is closed under them
pub combination-dot : (f u v w : Point) (a b c : ℤ) → dot f (combination a b c u v w) ≡ a *ℤ dot f u +ℤ b *ℤ dot f v +ℤ c *ℤ dot f w
combination-dot f u v w a b c =
    let F = vec 0 in let U = vec 1 in let W = vec 2 in let S = vec 3 in let A = var 12 in let B = var 13 in let C = var 14 in
    ring (f at u at v at w at a ∷ b ∷ c ∷ []) (dotᴱ F (combinationᴱ A B C U W S)) (A ⊗ dotᴱ F U ⊕ B ⊗ dotᴱ F W ⊕ C ⊗ dotᴱ F S) tt

module _ {a b c : ℤ} (ha : NN a) (hb : NN b) (hc : NN c) (u v w : Point) where
  sum-nn : {p q r : ℤ} → NN p → NN q → NN r → NN (a *ℤ p +ℤ b *ℤ q +ℤ c *ℤ r)
  sum-nn hp hq hr = nn-add (nn-add (nn-mul ha hp) (nn-mul hb hq)) (nn-mul hc hr)

  pub combination-weights : Weights u → Weights v → Weights w → pos 0 <ℤ (a +ℤ b +ℤ c) → Weights (combination a b c u v w)
  combination-weights hu hv hw s = record {
    x = sum-nn hu.x hv.x hw.x;
    y = sum-nn hu.y hv.y hw.y;
    z = sum-nn hu.z hv.z hw.z;
    some =
        let U = vec 0 in let W = vec 1 in let S = vec 2 in let A = var 9 in let B = var 10 in let C = var 11 in
        by-lt (u at v at w at a ∷ b ∷ c ∷ []) (num 0) (totalᴱ (combinationᴱ A B C U W S))
        (nn A ha ⊠ lt (num 0) (totalᴱ U) hu.some ⊞ nn B hb ⊠ lt (num 0) (totalᴱ W) hv.some
        ⊞ nn C hc ⊠ lt (num 0) (totalᴱ S) hw.some ⊞ lt (num 0) (A ⊕ B ⊕ C) s) tt;
  }

  pub combination-satisfies : (fs : List Point) → Satisfies fs u → Satisfies fs v → Satisfies fs w → Satisfies fs (combination a b c u v w)
  combination-satisfies [] su sv sw = tt
  combination-satisfies (f ∷ fs) su sv sw = (
    subst NN (sym (combination-dot f u v w a b c)) (sum-nn su.0 sv.0 sw.0),
    combination-satisfies fs su.1 sv.1 sw.1,
  )

-- ---- the crossing
-- m satisfies f and n fails it. On the way from m to n, the weights (−f·n) m + (f·m) n are where f is left: f has 0 there. What both satisfy is satisfied
-- there, and so is any g with (f·n) (g·m) ≤ (f·m) (g·n).
pub crossing : {f : Point} {fs : List Point} (m : Feasible (f ∷ fs)) (n : Feasible fs) (g : Point) → dot f n.w <ℤ pos 0
    → (dot f n.w *ℤ dot g m.w) ≤ℤ (dot f m.w *ℤ dot g n.w) → Feasible (g ∷ f ∷ fs)
crossing {f} {fs} m n g out h = record {
  w = combination a b (pos 0) m.w n.w n.w;
  ok = combination-weights a-nn m.sat.0 (nn-pos 0) m.w n.w n.w m.ok n.ok n.ok
      (by-lt (dot f n.w ∷ b ∷ []) (num 0) (neg (var 0) ⊕ var 1 ⊕ num 0) (lt (var 0) (num 0) out ⊞ nn (var 1) m.sat.0) tt);
  sat = (
    there g h,
    (
      there f (≤-of-eq (*ℤ_comm (dot f n.w) b)),
      combination-satisfies a-nn m.sat.0 (nn-pos 0) m.w n.w n.w fs m.sat.1 n.sat n.sat,
    ),
  );
}
  where
    a : ℤ
    a = neg_ℤ (dot f n.w)

    b : ℤ
    b = dot f m.w

    a-nn : NN a
    a-nn = by-nn (dot f n.w ∷ []) (neg (var 0)) (lt (var 0) (num 0) out) tt

    there : (g : Point) → (dot f n.w *ℤ dot g m.w) ≤ℤ (b *ℤ dot g n.w) → NN (dot g (combination a b (pos 0) m.w n.w n.w))
    there g h =
        let FN = var 0 in let FM = var 1 in let GN = var 2 in let GM = var 3 in
        subst NN (sym (combination-dot g m.w n.w n.w a b (pos 0)))
        (by-nn (dot f n.w ∷ b ∷ dot g n.w ∷ dot g m.w ∷ []) (neg FN ⊗ GM ⊕ FM ⊗ GN ⊕ num 0 ⊗ GN) (le (FN ⊗ GM) (FM ⊗ GN) h) tt)

-- ---- the corners named in turn: the same weights, for the same sides
pub turn-dot : (f w : Point) → dot (turn f) (turn w) ≡ dot f w
turn-dot f w = ring (f at w at []) (dotᴱ (turnᴱ (vec 0)) (turnᴱ (vec 1))) (dotᴱ (vec 0) (vec 1)) tt

pub turn-weights : {w : Point} → Weights w → Weights (turn w)
turn-weights {w} h = record {
  x = h.y;
  y = h.z;
  z = h.x;
  some = by-lt (w at []) (num 0) (totalᴱ (turnᴱ (vec 0))) (lt (num 0) (totalᴱ (vec 0)) h.some) tt;
}
