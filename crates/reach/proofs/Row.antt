-- A triangle that stays within a box on two axes reaches it where it does on the third: the slab lemma, with nothing else to satisfy.
--     row-reaches     a triangle within the box on the first two axes, whose own box touches it on the third
--     row-holds       the rule
-- Assumes nothing.
use mathlib.Core.List.{List, [], ◌∷◌}
use mathlib.Core.Logic.{◌⊎◌, inl, inr}
use mathlib.Core.Path.{◌≡◌, subst}
use lib.Dec.{T}
use lib.IntN.{ℤ, pos, negsuc, ◌+ℤ◌, ◌-ℤ◌, ◌*ℤ◌}
use lib.Signed.{◌≤ℤ◌}
use Rattle.std.specs.Int.{int_min, int_max}
use Rattle.integers.proofs.Omega.{zarith}
use Rattle.integers.proofs.Laws.{NN, nn-add, nn-mul, nn-pos}
use Rattle.integers.proofs.Expr.{lit, var, num, ◌⊕◌, ◌⊖◌, ◌⊗◌}
use Rattle.integers.proofs.Certificates.{le, by-nn}
use Rattle.integers.proofs.MinMax.{min!, max!, min-either, max-either}
use Rattle.geometry.specs.declared.Point.{Point}
use Rattle.geometry.specs.declared.Triangle.{Triangle}
use Rattle.geometry.specs.Geometry.{point, dot, Axis, x_of, y_of, z_of}
use Rattle.overlap.specs.Rule.{Side, low, high, least3, greatest3, overlaps_box}
use Rattle.reach.specs.Reaches.{ReachesBox}
use Rattle.reach.proofs.Weights.{Weights, Satisfies, Feasible}
use Rattle.reach.proofs.Slab.{slab}
use Rattle.reach.proofs.Sides.{on, side, Size, facing, each-side}
use Rattle.reach.proofs.RuleToReach.{to-reach}
use Rattle.reach.proofs.Theorem.{box-rule}

-- On an axis, the triangle stays within the box.
pub record Stays (t : Triangle) (p d : Point) (a : Axis) : Type 0 where
  pub from : a p ≤ℤ least3 a t
  pub to : greatest3 a t ≤ℤ (a p +ℤ a d)

-- ---- corners on the inner side of a side
abbrev Inner : Point → Type 0
Inner f = NN f.x × NN f.y × NN f.z

-- any weights satisfy a side that no corner is beyond of
inner : {f w : Point} → Inner f → Weights w → NN (dot f w)
inner h k = nn-add (nn-add (nn-mul h.0 k.x) (nn-mul h.1 k.y)) (nn-mul h.2 k.z)

low-nn : (p q : ℤ) → p ≤ℤ q → NN (pos 1 *ℤ (q -ℤ (p +ℤ pos 0)))
low-nn p q h = by-nn (p ∷ q ∷ []) (num 1 ⊗ (var 1 ⊖ (var 0 ⊕ num 0))) (le (var 0) (var 1) h) tt

high-nn : (p d q : ℤ) → q ≤ℤ (p +ℤ d) → NN (negsuc 0 *ℤ (q -ℤ (p +ℤ d)))
high-nn p d q h = by-nn (p ∷ d ∷ q ∷ []) (lit (negsuc 0) ⊗ (var 2 ⊖ (var 0 ⊕ var 1))) (le (var 2) (var 0 ⊕ var 1) h) tt

module _ {t : Triangle} {p d : Point} {a : Axis} (h : Stays t p d a) where
  abbrev x0 : ℤ
  x0 = a t.v0

  abbrev x1 : ℤ
  x1 = a t.v1

  abbrev x2 : ℤ
  x2 = a t.v2

  stays : (α : Side) → Inner (side (a p) (a d) (on t a) α)
  stays low =
      let f = h.from in
      let k0 : a p ≤ℤ x0 = omega (zarith, min! x0 x1, min! (int_min x0 x1) x2) in
      let k1 : a p ≤ℤ x1 = omega (zarith, min! x0 x1, min! (int_min x0 x1) x2) in
      let k2 : a p ≤ℤ x2 = omega (zarith, min! x0 x1, min! (int_min x0 x1) x2) in
      (low-nn (a p) x0 k0, low-nn (a p) x1 k1, low-nn (a p) x2 k2)
  stays high =
      let f = h.to in
      let k0 : x0 ≤ℤ (a p +ℤ a d) = omega (zarith, max! x0 x1, max! (int_max x0 x1) x2) in
      let k1 : x1 ≤ℤ (a p +ℤ a d) = omega (zarith, max! x0 x1, max! (int_max x0 x1) x2) in
      let k2 : x2 ≤ℤ (a p +ℤ a d) = omega (zarith, max! x0 x1, max! (int_max x0 x1) x2) in
      (high-nn (a p) (a d) x0 k0, high-nn (a p) (a d) x1 k1, high-nn (a p) (a d) x2 k2)

-- ---- all weight on one corner
unit0 : Weights (point (pos 1) (pos 0) (pos 0))
unit0 = record { x = nn-pos 1; y = nn-pos 0; z = nn-pos 0; some = record { lt = tt } }

unit1 : Weights (point (pos 0) (pos 1) (pos 0))
unit1 = record { x = nn-pos 0; y = nn-pos 1; z = nn-pos 0; some = record { lt = tt } }

unit2 : Weights (point (pos 0) (pos 0) (pos 1))
unit2 = record { x = nn-pos 0; y = nn-pos 0; z = nn-pos 1; some = record { lt = tt } }

-- some corner is on the inner side of a side
on-corner : (f : Point) {fs : List Point} → ((w : Point) → Weights w → Satisfies fs w) → NN f.x ⊎ (NN f.y ⊎ NN f.z) → Feasible (f ∷ fs)
on-corner f all h = elim h [
  | inl k ↦ record { w = point (pos 1) (pos 0) (pos 0); ok = unit0; sat = (by-nn (f.x ∷ f.y ∷ f.z ∷ []) (var 0 ⊗ num 1 ⊕ var 1 ⊗ num 0 ⊕ var 2 ⊗ num 0) (le (num 0) (var 0) k) tt, all _ unit0) }
  | inr g ↦ elim g [
    | inl k ↦ record { w = point (pos 0) (pos 1) (pos 0); ok = unit1; sat = (by-nn (f.x ∷ f.y ∷ f.z ∷ []) (var 0 ⊗ num 0 ⊕ var 1 ⊗ num 1 ⊕ var 2 ⊗ num 0) (le (num 0) (var 1) k) tt, all _ unit1) }
    | inr k ↦ record { w = point (pos 0) (pos 0) (pos 1); ok = unit2; sat = (by-nn (f.x ∷ f.y ∷ f.z ∷ []) (var 0 ⊗ num 0 ⊕ var 1 ⊗ num 0 ⊕ var 2 ⊗ num 1) (le (num 0) (var 2) k) tt, all _ unit2) }
  ]
]

-- of three numbers, the greatest and the least are among them
one_of : (P : ℤ → Type 0) (op : ℤ → ℤ → ℤ) → ((x y : ℤ) → (op x y ≡ x) ⊎ (op x y ≡ y)) → (x y z : ℤ) → P (op (op x y) z) → P x ⊎ (P y ⊎ P z)
one_of P op either x y z h = elim (either (op x y) z) [
  | inl e ↦ elim (either x y) [
    | inl f ↦ inl (subst P f (subst P e h))
    | inr f ↦ inr (inl (subst P f (subst P e h)))
  ]
  | inr e ↦ inr (inr (subst P e h))
]

-- ---- the triangle stays within the box on x and y, and its box touches it on z
module _ (t : Triangle) (p d : Point) (size : Size d) (hx : Stays t p d x_of) (hy : Stays t p d y_of) (low-z : least3 z_of t ≤ℤ (p.z +ℤ d.z)) (high-z : p.z ≤ℤ greatest3 z_of t) where
  abbrev f : Side → Point
  f = side p.x d.x (on t x_of)

  abbrev g : Side → Point
  g = side p.y d.y (on t y_of)

  abbrev h : Side → Point
  h = side p.z d.z (on t z_of)

  abbrev fs : List Point
  fs = f low ∷ f high ∷ g low ∷ g high ∷ []

  all : (w : Point) → Weights w → Satisfies fs w
  all w k = (inner (stays hx low) k, (inner (stays hx high) k, (inner (stays hy low) k, (inner (stays hy high) k, tt))))

  both : Feasible (h low ∷ h high ∷ fs)
  both =
      let a = z_of t.v0 in
      let b = z_of t.v1 in
      let c = z_of t.v2 in
      slab (facing p.z d.z (on t z_of) size.z)
      (on-corner (h low) all (one_of (λ q. NN (pos 1 *ℤ (q -ℤ (p.z +ℤ pos 0)))) int_max max-either a b c (low-nn p.z (greatest3 z_of t) high-z)))
      (on-corner (h high) all (one_of (λ q. NN (negsuc 0 *ℤ (q -ℤ (p.z +ℤ d.z)))) int_min min-either a b c (high-nn p.z d.z (least3 z_of t) low-z)))

  pub row-reaches : ReachesBox t p d
  row-reaches =
      let m = both in
      let (hl, (hh, (fl, (fh, (gl, (gh, _)))))) = m.sat in
      to-reach m.w.x m.w.y m.w.z m.ok (each-side (λ α. NN (dot (f α) m.w)) fl fh)
      (each-side (λ α. NN (dot (g α) m.w)) gl gh) (each-side (λ α. NN (dot (h α) m.w)) hl hh)

  pub row-holds : T (overlaps_box t p d)
  row-holds = (box-rule t p d size).1 row-reaches
