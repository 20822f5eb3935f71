-- The sides of a box as triples: the numbers that a side gives the corners of a triangle. A low side has the sign 1 and a high side the sign −1, so that one
-- lemma serves both: seen from a high side, the axis is reflected.
-- On an axis, a box goes from p to p + d, and x has the coordinates of the three corners of the triangle.
use mathlib.Core.Path.{◌≡◌, refl}
use mathlib.Core.Logic.{◌↔◌, inl, inr}
use mathlib.Core.List.{List, [], ◌∷◌}
use Prim.Native.Nat.{ℕ, ◌+◌}
use lib.IntN.{ℤ, pos, negsuc, ◌+ℤ◌, ◌-ℤ◌, ◌*ℤ◌}
use lib.Signed.{◌≤ℤ◌}
use Rattle.integers.proofs.Laws.{NN, ≤-or->}
use Rattle.integers.proofs.Expr.{Expr, lit, var, num, ◌⊕◌, ◌⊗◌, ◌⊖◌}
use Rattle.integers.proofs.Ring.{ring}
use Rattle.integers.proofs.Certificates.{nn, le, lt, ps, weak, nat, ◌⊠◌, by-nn, by_le}
use Rattle.geometry.specs.declared.Point.{Point}
use Rattle.geometry.specs.declared.Triangle.{Triangle}
use Rattle.geometry.specs.Geometry.{point, dot, Axis}
use Rattle.overlap.specs.Rule.{Side, low, high, step}
use Rattle.reach.specs.Reaches.{Between, weighted_sum}
use Rattle.reach.proofs.Vectors.{Vector, vector, det, ones, dotᴱ, detᴱ, totalᴱ, onesᴱ, vec, ◌at◌}
use Rattle.reach.proofs.Slab.{Facing}

-- the coordinates of a triangle's corners on an axis
abbrev pub on : Triangle → Axis → Point
on t a = point (a t.v0) (a t.v1) (a t.v2)

-- 1 for a low side, −1 for a high one
abbrev pub sign : Side → ℤ
sign low = pos 1
sign high = negsuc 0

pub sign-square : (α : Side) → sign α *ℤ sign α ≡ pos 1
sign-square low = refl
sign-square high = refl

-- the side against a number m: low where m is negative, high where it is not
pub against : (m : ℤ) → (α : Side) × ((sign α *ℤ m) ≤ℤ pos 0)
against m = elim (≤-or-> (pos 0) m) [
  | inl h ↦ (high, by_le (m ∷ []) (lit (negsuc 0) ⊗ var 0) (num 0) (nn (var 0) h) tt)
  | inr h ↦ (low, by_le (m ∷ []) (num 1 ⊗ var 0) (num 0) (lt (var 0) (num 0) h) tt)
]

-- how far corners with the coordinates x are on the inner side of the side at c with the sign r
abbrev pub on_side : (r c : ℤ) → Point → Point
on_side r c x = point (r *ℤ (x.x -ℤ c)) (r *ℤ (x.y -ℤ c)) (r *ℤ (x.z -ℤ c))

abbrev pub on_sideᴱ : (r c : Expr) → Vector → Vector
on_sideᴱ r c x = vector (r ⊗ (x.x ⊖ c)) (r ⊗ (x.y ⊖ c)) (r ⊗ (x.z ⊖ c))

abbrev pub side : (p d : ℤ) → Point → Side → Point
side p d x α = on_side (sign α) (p +ℤ step α d) x

-- what holds for the low side and for the high one
pub each-side : (P : Side → Type 0) → P low → P high → (α : Side) → P α
each-side P l h low = l
each-side P l h high = h

-- the box's size on each axis is not negative
pub record Size (d : Point) : Type 0 where
  pub x : pos 0 ≤ℤ d.x
  pub y : pos 0 ≤ℤ d.y
  pub z : pos 0 ≤ℤ d.z

-- ---- the two sides of an axis
-- no weights fail both: the numbers of a corner on the two add up to the size
pub facing : (p d : ℤ) (x : Point) → NN d → Facing (side p d x low) (side p d x high)
facing p d x hd w h =
    let X = vec 0 in let W = vec 1 in let P = var 6 in let D = var 7 in
    by-nn (x at w at p ∷ d ∷ []) (dotᴱ (on_sideᴱ (num 1) (P ⊕ num 0) X) W ⊕ dotᴱ (on_sideᴱ (lit (negsuc 0)) (P ⊕ D) X) W)
    (nn D hd ⊠ weak (ps (totalᴱ W) h.some)) tt

-- no side of the box is beyond a side
pub inside : (p d : ℤ) → NN d → (α β : Side) → NN (sign α *ℤ (p +ℤ step β d -ℤ (p +ℤ step α d)))
inside p d hd low low = by-nn (p ∷ []) (num 1 ⊗ (var 0 ⊕ num 0 ⊖ (var 0 ⊕ num 0))) (nat 0) tt
inside p d hd low high = by-nn (p ∷ d ∷ []) (num 1 ⊗ (var 0 ⊕ var 1 ⊖ (var 0 ⊕ num 0))) (nn (var 1) hd) tt
inside p d hd high low = by-nn (p ∷ d ∷ []) (lit (negsuc 0) ⊗ (var 0 ⊕ num 0 ⊖ (var 0 ⊕ var 1))) (nn (var 1) hd) tt
inside p d hd high high = by-nn (p ∷ d ∷ []) (lit (negsuc 0) ⊗ (var 0 ⊕ var 1 ⊖ (var 0 ⊕ var 1))) (nat 0) tt

-- ---- weights that satisfy both sides put the weighted sum between them
abbrev pub Spans : (p d : ℤ) (x w : Point) → Type 0
Spans p d x w = (α : Side) → NN (dot (side p d x α) w)

pub between : (t : Triangle) {p d : Point} (w0 w1 w2 : ℕ) (a : Axis)
    → Between p d (w0 + w1 + w2) a (weighted_sum t w0 w1 w2 a) ↔ Spans (a p) (a d) (on t a) (point (pos w0) (pos w1) (pos w2))
between t {p} {d} w0 w1 w2 a = (to-spans, to-between)
  where
    ρ : List ℤ
    ρ = on t a at pos w0 ∷ pos w1 ∷ pos w2 ∷ a p ∷ a d ∷ []

    X : Vector
    X = vec 0

    W : Vector
    W = vec 1

    P : Expr
    P = var 6

    D : Expr
    D = var 7

    on-low : Expr
    on-low = dotᴱ (on_sideᴱ (num 1) (P ⊕ num 0) X) W

    on-high : Expr
    on-high = dotᴱ (on_sideᴱ (lit (negsuc 0)) (P ⊕ D) X) W

    to-between : Spans (a p) (a d) (on t a) (point (pos w0) (pos w1) (pos w2)) → Between p d (w0 + w1 + w2) a (weighted_sum t w0 w1 w2 a)
    to-between h = record {
      from = by_le ρ (P ⊗ totalᴱ W) (dotᴱ W X) (nn on-low (h low)) tt;
      to = by_le ρ (dotᴱ W X) ((P ⊕ D) ⊗ totalᴱ W) (nn on-high (h high)) tt;
    }

    to-spans : Between p d (w0 + w1 + w2) a (weighted_sum t w0 w1 w2 a) → Spans (a p) (a d) (on t a) (point (pos w0) (pos w1) (pos w2))
    to-spans h low = by-nn ρ on-low (le (P ⊗ totalᴱ W) (dotᴱ W X) h.from) tt
    to-spans h high = by-nn ρ on-high (le (dotᴱ W X) ((P ⊕ D) ⊗ totalᴱ W) h.to) tt

-- ---- a component of the normal, from the corners' coordinates x and y on the other two axes
pub normal-det : (x y : Point) → (x.y -ℤ x.x) *ℤ (y.z -ℤ y.x) -ℤ (y.y -ℤ y.x) *ℤ (x.z -ℤ x.x) ≡ det x y ones
normal-det x y =
    let X = vec 0 in let Y = vec 1 in
    ring (x at y at []) ((X.y ⊖ X.x) ⊗ (Y.z ⊖ Y.x) ⊖ (Y.y ⊖ Y.x) ⊗ (X.z ⊖ X.x)) (detᴱ X Y onesᴱ) tt
