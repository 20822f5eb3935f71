-- A leg from a to b is the triangle a, b, b: what the leg reaches by two weights, the triangle reaches by three.
use mathlib.Core.Path.{◌≡◌, subst}
use mathlib.Core.Logic.{◌↔◌}
use mathlib.Core.List.{[], ◌∷◌}
use Prim.Native.Nat.{ℕ, ◌+◌}
use native.Mathlib.Omega.{arith}
use lib.IntN.{ℤ, pos}
use Rattle.integers.proofs.Expr.{var, num, ◌⊕◌, ◌⊗◌}
use Rattle.integers.proofs.Ring.{ring}
use Rattle.geometry.specs.declared.Point.{Point}
use Rattle.geometry.specs.Geometry.{Axis, x_of, y_of, z_of, leg}
use Rattle.reach.specs.Reaches.{Between, ReachesBox, LegReachesBox, weighted_sum, weighted_sum_leg}

-- the same total and the same weighted sum
same : {p d : Point} {v w : ℕ} {c : Axis} {r s : ℤ} → v ≡ w → r ≡ s → Between p d v c r → Between p d w c s
same {p} {d} {v} {w} {c} {r} {s} total sum h = subst (λ n. Between p d n c s) total (subst (λ z. Between p d v c z) sum h)

module _ (a b : Point) (u v : ℕ) (c : Axis) where
  third-0 : weighted_sum_leg a b u v c ≡ weighted_sum (leg a b) u v 0 c
  third-0 =
      let U = var 0 in let W = var 1 in let A = var 2 in let B = var 3 in
      ring (pos u ∷ pos v ∷ c a ∷ c b ∷ []) (U ⊗ A ⊕ W ⊗ B) (U ⊗ A ⊕ W ⊗ B ⊕ num 0 ⊗ B) tt

  last-two : (w : ℕ) → weighted_sum (leg a b) u v w c ≡ weighted_sum_leg a b u (v + w) c
  last-two w =
      let U = var 0 in let W = var 1 in let S = var 2 in let A = var 3 in let B = var 4 in
      ring (pos u ∷ pos v ∷ pos w ∷ c a ∷ c b ∷ []) (U ⊗ A ⊕ W ⊗ B ⊕ S ⊗ B) (U ⊗ A ⊕ (W ⊕ S) ⊗ B) tt

pub leg-rule : (a b p d : Point) → LegReachesBox a b p d ↔ ReachesBox (leg a b) p d
leg-rule a b p d = (
  λ r.
      let n : r.w0 + r.w1 ≡ r.w0 + r.w1 + 0 = omega arith in
      record {
        w0 = r.w0;
        w1 = r.w1;
        w2 = 0;
        some = omega (arith, r.some);
        x = same n (third-0 a b r.w0 r.w1 x_of) r.x;
        y = same n (third-0 a b r.w0 r.w1 y_of) r.y;
        z = same n (third-0 a b r.w0 r.w1 z_of) r.z;
      },
  λ r.
      let n : r.w0 + r.w1 + r.w2 ≡ r.w0 + (r.w1 + r.w2) = omega arith in
      record {
        w0 = r.w0;
        w1 = r.w1 + r.w2;
        some = omega (arith, r.some);
        x = same n (last-two a b r.w0 r.w1 x_of r.w2) r.x;
        y = same n (last-two a b r.w0 r.w1 y_of r.w2) r.y;
        z = same n (last-two a b r.w0 r.w1 z_of r.w2) r.z;
      },
)
