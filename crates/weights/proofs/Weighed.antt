-- A candidate that fits, as the answer's weights: the triangle reaches the box by them, and their sum is small.
--     weighed
-- Assumes nothing.
use mathlib.Core.Path.{◌≡◌, sym, ap, ◌∙◌, subst}
use Prim.Native.Nat.{ℕ, ◌+◌, ◌*◌, ◌^◌, ◌<◌}
use native.Mathlib.Nat.{mul_assoc}
use native.Mathlib.Omega.{arith}
use lib.IntN.{pos}
use lib.Pow.{pow_pos, pow-add}
use lib.Signed.{◌≤ℤ◌}
use Rattle.integers.proofs.Omega.{zarith}
use Rattle.geometry.specs.declared.Point.{Point}
use Rattle.geometry.specs.declared.Triangle.{Triangle}
use Rattle.geometry.specs.Bounds.{TriangleWithin}
use Rattle.reach.proofs.Vectors.{total}
use Rattle.candidates.specs.Candidates.{rows, candidate, Fits}
use Rattle.candidates.proofs.Boxes.{fits-reaches}
use Rattle.candidates.proofs.Totals.{few}
use Rattle.weights.specs.declared.Weights.{Weights}
use Rattle.weights.specs.Weights.{Weighs}

-- 8 M M, where M is a power of 2
eight : (k : ℕ) → 8 * 2 ^ k * 2 ^ k < 2 ^ (2 * k + 4)
eight k = rw (mul_assoc 8 (2 ^ k) (2 ^ k), ← pow-add 2 k k, power) (omega (arith, pow_pos (k + k)))
  where
    twice : 2 * k + 4 ≡ k + k + 4
    twice = omega arith

    power : 2 ^ (2 * k + 4) ≡ 2 ^ (k + k) * 16
    power = ap (λ (n : ℕ). 2 ^ n) twice ∙ pow-add 2 (k + k) 4

module _ {t : Triangle} {p d w : Point} {r : Weights} (m : ℕ) (is : w ≡ candidate (rows t p d) m) (x : r.w0 ≡ w.x) (y : r.w1 ≡ w.y) (z : r.w2 ≡ w.z) where
  pub weighed : Fits (rows t p d) w → (k : ℕ) → TriangleWithin (2 ^ k) t → Weighs (2 ^ (2 * k + 4)) t p d r
  weighed f k h =
      let b = fits-reaches f in
      let n = b.reaches.w0 + b.reaches.w1 + b.reaches.w2 in
      let few : pos n ≤ℤ pos (8 * 2 ^ k * 2 ^ k) = subst (λ (w : Point). total w ≤ℤ pos (8 * 2 ^ k * 2 ^ k)) (sym is ∙ b.by) (few p d (pow_pos k) h m) in
      record {
        reaches = b.reaches;
        w0 = x ∙ ap (λ (w : Point). w.x) b.by;
        w1 = y ∙ ap (λ (w : Point). w.y) b.by;
        w2 = z ∙ ap (λ (w : Point). w.z) b.by;
        few = omega (zarith, eight k);
      }
