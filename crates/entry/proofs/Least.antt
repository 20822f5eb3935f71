-- The theorem: where a leg reaches a box, the entry fraction is the least fraction of the leg whose point lies in the closed box. For all integers.
--     entry-positive   its denominator is positive
--     entry-least      it is the least
-- Assumes nothing.
use mathlib.Core.List.{[], ◌∷◌}
use mathlib.Core.Path.{◌≡◌, sym, ◌∙◌, ap₂, subst}
use Prim.Native.Nat.{ℕ, ◌+◌}
use lib.IntN.{ℤ, pos, nat_abs, ◌+ℤ◌, ◌-ℤ◌, -ℤ-+ℤ_cancel}
use lib.Signed.{◌≤ℤ◌, ◌<ℤ◌}
use Rattle.integers.proofs.Omega.{zarith, abs! }
use Rattle.integers.proofs.Laws.{NN, <→≤, nn-pos, pos-lt, lt-pos, ≤→nn}
use Rattle.integers.proofs.Expr.{var, num, ◌⊕◌, ◌⊗◌}
use Rattle.integers.proofs.Certificates.{nn, le, ◌⊞◌, ◌⊠◌, by_le, by-le/}
use Rattle.geometry.specs.declared.Point.{Point}
use Rattle.geometry.specs.Geometry.{Axis, x_of, y_of, z_of}
use Rattle.reach.specs.Reaches.{Between, LegReachesBox, weighted_sum_leg}
use Rattle.entry.specs.declared.Fraction.{Fraction}
use Rattle.entry.specs.Entry.{over, later, entry_on, entry}
use Rattle.entry.specs.Inner.{AtMost, Positive, share, LeastFraction}
use Rattle.entry.proofs.Fractions.{later-ind, later-left, later-right, at-most-trans}
use Rattle.entry.proofs.Sides.{Inside, axis-positive, axis-least, axis-at}

-- a fraction from 0 to one of weights is one of weights
pub record Weights (f : Fraction) : Type 0 where
  pub u : ℕ
  pub v : ℕ
  pub is : over (pos v) (pos (u + v)) ≡ f

weights : (f : Fraction) (w0 w1 : ℕ) → Positive f → pos 0 <ℤ pos (w0 + w1) → AtMost (over (pos 0) (pos 1)) f → AtMost f (over (pos w1) (pos (w0 + w1)))
    → Weights f
weights f w0 w1 pf pw low high =
    let N = var 0 in let D = var 1 in let W0 = var 2 in let W1 = var 3 in
    let ρ = f.num ∷ f.den ∷ pos w0 ∷ pos w1 ∷ [] in
    let n : NN f.num = by_le ρ (num 0) N (le (num 0 ⊗ D) (N ⊗ num 1) low) tt in
    let m : f.num ≤ℤ f.den = by-le/ ρ (W0 ⊕ W1) N D pw (le (N ⊗ (W0 ⊕ W1)) (W1 ⊗ D) high ⊞ nn W0 (nn-pos w0) ⊠ nn D (<→≤ pf)) tt in
    let v = whole n in
    let u = whole (≤→nn m) in
    record {
      u = nat_abs (f.den -ℤ f.num);
      v = nat_abs f.num;
      is = λ i. over (v i) ((ap₂ ◌+ℤ◌ u v ∙ -ℤ-+ℤ_cancel f.den f.num) i);
    }
  where
    whole : {z : ℤ} → NN z → pos (nat_abs z) ≡ z
    whole {z} h = omega (zarith, abs! z)

module _ (a b p d : Point) where
  abbrev on : Axis → Fraction
  on c = entry_on (c a) (c b) (c p) (c d)

  abbrev zero : Fraction
  zero = over (pos 0) (pos 1)

  zero-positive : Positive zero
  zero-positive = record { lt = tt }

  on-positive : (c : Axis) → Positive (on c)
  on-positive c = axis-positive (c a) (c b) (c p) (c d)

  -- a property of 0 and of the axes' fractions is one of the greatest
  by-axis : (P : Fraction → Type 0) → P zero → P (on x_of) → P (on y_of) → P (on z_of) → P (entry a b p d)
  unfolding entry
  by-axis P s x y z = later-ind P _ _ (later-ind P _ _ (later-ind P _ _ s z) y) x

  pub entry-positive : Positive (entry a b p d)
  entry-positive = by-axis Positive zero-positive (on-positive x_of) (on-positive y_of) (on-positive z_of)

  -- what the greatest of four is at least
  pub record Four (f : Fraction) : Type 0 where
    pub start : AtMost zero f
    pub x : AtMost (on x_of) f
    pub y : AtMost (on y_of) f
    pub z : AtMost (on z_of) f

  four : Four (entry a b p d)
  unfolding entry
  four =
      let pz = on-positive z_of in
      let py = on-positive y_of in
      let f1 = later zero (on z_of) in
      let p1 = later-ind Positive zero (on z_of) zero-positive pz in
      let f2 = later f1 (on y_of) in
      let p2 = later-ind Positive f1 (on y_of) p1 py in
      let f3 = later f2 (on x_of) in
      let from-2 : (f : Fraction) → Positive f → AtMost f f2 → AtMost f f3 =
      λ f pf h. at-most-trans f f2 f3 pf p2 entry-positive h (later-left f2 (on x_of)) in
      let from-1 : (f : Fraction) → Positive f → AtMost f f1 → AtMost f f3 =
      λ f pf h. from-2 f pf (at-most-trans f f1 f2 pf p1 p2 h (later-left f1 (on y_of))) in
      record {
        start = from-1 zero zero-positive (later-left zero (on z_of));
        x = later-right f2 (on x_of);
        y = from-2 (on y_of) py (later-right f1 (on y_of));
        z = from-1 (on z_of) pz (later-right zero (on z_of));
      }

  module _ (r : LegReachesBox a b p d) where
    inside : {c : Axis} → Between p d (r.w0 + r.w1) c (weighted_sum_leg a b r.w0 r.w1 c) → Inside (c a) (c b) (c p) (c d) (pos r.w0) (pos r.w1)
    inside h = record { from = h.from; to = h.to }

    on-least : {c : Axis} → Between p d (r.w0 + r.w1) c (weighted_sum_leg a b r.w0 r.w1 c) → AtMost (on c) (share r)
    on-least {c} h = axis-least (c a) (c b) (c p) (c d) (pos r.w0) (pos r.w1) (nn-pos r.w1) (inside h)

    least : AtMost (entry a b p d) (share r)
    least =
        by-axis (λ f. AtMost f (share r))
        (by_le (pos r.w0 ∷ pos r.w1 ∷ []) (num 0 ⊗ (var 0 ⊕ var 1)) (var 1 ⊗ num 1) (nn (var 1) (nn-pos r.w1)) tt)
        (on-least r.x) (on-least r.y) (on-least r.z)

  pub entry-least : LegReachesBox a b p d → LeastFraction a b p d (entry a b p d)
  entry-least r = record {
    at = record {
      w0 = w.u;
      w1 = w.v;
      some = lt-pos (subst Positive (sym w.is) entry-positive);
      x = there four.x r.x;
      y = there four.y r.y;
      z = there four.z r.z;
    };
    is = w.is;
    least = least;
  }
    where
      some : pos 0 <ℤ pos (r.w0 + r.w1)
      some = pos-lt r.some

      w : Weights (entry a b p d)
      w = weights (entry a b p d) r.w0 r.w1 entry-positive some four.start (least r)

      there : {c : Axis} → AtMost (on c) (entry a b p d) → Between p d (r.w0 + r.w1) c (weighted_sum_leg a b r.w0 r.w1 c)
          → Between p d (w.u + w.v) c (weighted_sum_leg a b w.u w.v c)
      there {c} h k =
          let i = axis-at (c a) (c b) (c p) (c d) (pos r.w0) (pos r.w1) (pos w.u) (pos w.v) some (nn-pos (w.u + w.v)) (inside r k)
          (subst (AtMost (on c)) (sym w.is) h) (subst (λ f. AtMost f (share r)) (sym w.is) (least r)) in
          record { from = i.from; to = i.to }
