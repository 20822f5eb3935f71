-- An edge need not be asked along a column whose square it does not cut. With g = e × (x − p) and P = n · (x − p), n × g = e · P where n · e = 0: so
-- n.z · g.x = n.x · g.z + e.y · P, and n.z · g.y = n.y · g.z − e.x · P. Where the square is inside of the edge, g.z has the sign of n.z at each corner of the
-- box; and of the corners, one has the P that is wanted.
--     yz-holds, zx-holds      the rule's two other tests of the edge hold
-- Assumes nothing.
use mathlib.Core.Path.{◌≡◌, refl, sym, ap, ap₂, ◌∙◌, subst}
use mathlib.Core.Logic.{◌⊎◌, inl, inr}
use mathlib.Core.Bool.{Bool, true, false, cond, and-eq-true_iff}
use mathlib.Core.List.{List, [], ◌∷◌}
use lib.IntN.{ℤ, pos, negsuc, neg_ℤ, nat_abs, ◌+ℤ◌, ◌-ℤ◌, ◌*ℤ◌, zero-*ℤ}
use lib.Signed.{◌≤ℤ◌, ◌<ℤ◌, le_z, lt_z}
use Rattle.std.specs.Int.{int_min, int_max}
use Rattle.integers.proofs.Omega.{zarith, le-true}
use Rattle.integers.proofs.Laws.{NN, ≤-or->, <→≤, ≤-antisymm, nn-mul}
use Rattle.integers.proofs.Bounds.{abs_neg}
use Rattle.integers.proofs.Expr.{Expr, lit, var, num, neg, ◌⊕◌, ◌⊖◌, ◌⊗◌}
use Rattle.integers.proofs.Ring.{ring}
use Rattle.integers.proofs.Certificates.{nn, le, lt, eq, ze, ◌⊞◌, ◌⊠◌, ◌⊹◌, by-nn, by-nn/, by_le, by-eq, by-false}
use Rattle.integers.proofs.MinMax.{min-either, max-either, min-≤-left, min-≤-right, ≤-max-left, ≤-max-right}
use Rattle.integers.proofs.Scales.{max-scale, min-scale, spread}
use Rattle.integers.proofs.Orientation.{orientation, turned_by, orientation-nn}
use Rattle.geometry.specs.declared.Point.{Point}
use Rattle.geometry.specs.declared.Triangle.{Triangle}
use Rattle.geometry.specs.Geometry.{dot, minus, cube}
use Rattle.overlap.specs.Rule.{normal, turned, plane_holds, least8, greatest8}
use Rattle.overlap.proofs.Corners.{least8-sum, greatest8-sum}

pub turned-size : (n c : ℤ) → nat_abs (turned n c) ≡ nat_abs c
turned-size n c = go (lt_z n (pos 0))
  where
    go : (k : Bool) → nat_abs (cond k (neg_ℤ c) c) ≡ nat_abs c
    go true = abs_neg c
    go false = refl

-- ---- the sign by which the rule turns an edge's normal inward
orientation-pos : (n : ℤ) → (n ≡ pos 0 → ⊥) → pos 0 <ℤ (orientation n *ℤ n)
orientation-pos n ne = elim (≤-or-> (orientation n *ℤ n) (pos 0)) [ inl h ↦ absurd (ne (go (lt_z n (pos 0)) refl h)) | inr h ↦ h ]
  where
    go : (k : Bool) → lt_z n (pos 0) ≡ k → (cond k (negsuc 0) (pos 1) *ℤ n) ≤ℤ pos 0 → n ≡ pos 0
    go true e h = absurd (by-false (n ∷ []) (le (lit (negsuc 0) ⊗ var 0) (num 0) h ⊞ lt (var 0) (num 0) (omega zarith)) tt)
    go false e h =
        let l = by_le (n ∷ []) (var 0) (num 0) (le (num 1 ⊗ var 0) (num 0) h) tt in
        let g : pos 0 ≤ℤ n = omega zarith in
        ≤-antisymm l g

-- ---- algebra: the numbers of a corner x of the box, as r = x − p
module _ (nx ny nz ex ey ez rx ry rz : ℤ) (flat : nx *ℤ ex +ℤ ny *ℤ ey +ℤ nz *ℤ ez ≡ pos 0) where
  abbrev ρ : (σ τ : ℤ) → List ℤ
  ρ σ τ = nx ∷ ny ∷ nz ∷ ex ∷ ey ∷ ez ∷ rx ∷ ry ∷ rz ∷ σ ∷ τ ∷ []

  abbrev P : Expr
  P = var 0 ⊗ var 6 ⊕ var 1 ⊗ var 7 ⊕ var 2 ⊗ var 8

  abbrev gz : Expr
  gz = var 3 ⊗ var 7 ⊖ var 4 ⊗ var 6

  abbrev gx : Expr
  gx = var 4 ⊗ var 8 ⊖ var 5 ⊗ var 7

  abbrev gy : Expr
  gy = var 5 ⊗ var 6 ⊖ var 3 ⊗ var 8

  abbrev on-plane : Expr
  on-plane = var 0 ⊗ var 3 ⊕ var 1 ⊗ var 4 ⊕ var 2 ⊗ var 5

  -- σ is the sign of n.z, and τ that of n.x or n.y
  gx-nn : (σ τ : ℤ) → pos 0 <ℤ (σ *ℤ nz) → NN (τ *ℤ nx) → NN (σ *ℤ (ex *ℤ ry -ℤ ey *ℤ rx))
      → NN (σ *ℤ τ *ℤ ey *ℤ (nx *ℤ rx +ℤ ny *ℤ ry +ℤ nz *ℤ rz)) → NN (τ *ℤ (ey *ℤ rz -ℤ ez *ℤ ry))
  gx-nn σ τ d n s p =
      by-nn/ (ρ σ τ) (var 9 ⊗ var 2) (var 10 ⊗ gx) d
      (nn (var 10 ⊗ var 0) n ⊠ nn (var 9 ⊗ gz) s ⊞ nn (var 9 ⊗ var 10 ⊗ var 4 ⊗ P) p
      ⊞ eq (var 9 ⊗ var 10 ⊗ var 7) on-plane (num 0) flat) tt

  gy-nn : (σ τ : ℤ) → pos 0 <ℤ (σ *ℤ nz) → NN (τ *ℤ ny) → NN (σ *ℤ (ex *ℤ ry -ℤ ey *ℤ rx))
      → NN (neg_ℤ (σ *ℤ τ *ℤ ex) *ℤ (nx *ℤ rx +ℤ ny *ℤ ry +ℤ nz *ℤ rz)) → NN (τ *ℤ (ez *ℤ rx -ℤ ex *ℤ rz))
  gy-nn σ τ d n s p =
      by-nn/ (ρ σ τ) (var 9 ⊗ var 2) (var 10 ⊗ gy) d
      (nn (var 10 ⊗ var 1) n ⊠ nn (var 9 ⊗ gz) s ⊞ nn (neg (var 9 ⊗ var 10 ⊗ var 3) ⊗ P) p
      ⊞ eq (neg (var 9 ⊗ var 10 ⊗ var 6)) on-plane (num 0) flat) tt

-- ---- the corners of a box: on an axis, 0 or d from its lowest
abbrev Step : (d α : ℤ) → Type 0
Step d α = (α ≡ pos 0) ⊎ (α ≡ d)

-- M is the multiple of m at a corner
record Multiple (d m M : ℤ) : Type 0 where
  α : ℤ
  step : Step d α
  is : M ≡ α *ℤ m

module _ (d m : ℤ) where
  multiple : (M : ℤ) → (M ≡ pos 0) ⊎ (M ≡ d *ℤ m) → Multiple d m M
  multiple M h = elim h [
    | inl e ↦ record { α = pos 0; step = inl refl; is = e ∙ sym (zero-*ℤ m) }
    | inr e ↦ record { α = d; step = inr refl; is = e }
  ]

  greatest-at : Multiple d m (int_max (pos 0) (d *ℤ m))
  greatest-at = multiple _ (max-either (pos 0) (d *ℤ m))

  least_at : Multiple d m (int_min (pos 0) (d *ℤ m))
  least_at = multiple _ (min-either (pos 0) (d *ℤ m))

  -- what holds of 0 and of d · m holds at each corner
  at-corner : (P : ℤ → Type 0) → P (pos 0) → P (d *ℤ m) → {α : ℤ} → Step d α → P (α *ℤ m)
  at-corner P z f h = elim h [ inl e ↦ subst (λ a. P (a *ℤ m)) (sym e) (rw zero-*ℤ z) | inr e ↦ subst (λ a. P (a *ℤ m)) (sym e) f ]

  at_most : {α : ℤ} → Step d α → (α *ℤ m) ≤ℤ int_max (pos 0) (d *ℤ m)
  at_most = at-corner (λ z. z ≤ℤ int_max (pos 0) (d *ℤ m)) (≤-max-left (pos 0) (d *ℤ m)) (≤-max-right (pos 0) (d *ℤ m))

  at_least : {α : ℤ} → Step d α → int_min (pos 0) (d *ℤ m) ≤ℤ (α *ℤ m)
  at_least = at-corner (λ z. int_min (pos 0) (d *ℤ m) ≤ℤ z) (min-≤-left (pos 0) (d *ℤ m)) (min-≤-right (pos 0) (d *ℤ m))

-- ---- the rule's value of an edge, over the numbers in the plane of two axes
abbrev pub value_in : (ma mb va vb pa pb d : ℤ) → ℤ
value_in ma mb va vb pa pb d = ma *ℤ pa +ℤ mb *ℤ pb -ℤ (ma *ℤ va +ℤ mb *ℤ vb) +ℤ int_max (pos 0) (d *ℤ ma) +ℤ int_max (pos 0) (d *ℤ mb)

abbrev pub edge_in : (n ea eb va vb pa pb d : ℤ) → ℤ
edge_in n ea eb va vb pa pb d = value_in (turned n (neg_ℤ eb)) (turned n ea) va vb pa pb d

-- by its sign
by_sign : (n ea eb va vb pa pb d : ℤ) → edge_in n ea eb va vb pa pb d ≡ value_in (orientation n *ℤ neg_ℤ eb) (orientation n *ℤ ea) va vb pa pb d
by_sign n ea eb va vb pa pb d = λ l. value_in (turned_by n (neg_ℤ eb) l) (turned_by n ea l) va vb pa pb d

-- In the plane of two axes, the corner (α, β) of the box at (pa, pb).
module _ (σ ea eb va vb pa pb d : ℤ) {α β : ℤ} (hα : Step d α) (hβ : Step d β) where
  abbrev ma : ℤ
  ma = σ *ℤ neg_ℤ eb

  abbrev mb : ℤ
  mb = σ *ℤ ea

  abbrev here : ℤ
  here = σ *ℤ (ea *ℤ (pb +ℤ β -ℤ vb) -ℤ eb *ℤ (pa +ℤ α -ℤ va))

  abbrev ρc : (xa xb ya yb : ℤ) → List ℤ
  ρc xa xb ya yb = σ ∷ ea ∷ eb ∷ va ∷ vb ∷ pa ∷ pb ∷ α ∷ β ∷ xa ∷ xb ∷ ya ∷ yb ∷ []

  abbrev hereᴱ : Expr
  hereᴱ = var 0 ⊗ (var 1 ⊗ (var 6 ⊕ var 8 ⊖ var 4) ⊖ var 2 ⊗ (var 5 ⊕ var 7 ⊖ var 3))

  abbrev maᴱ : Expr
  maᴱ = var 0 ⊗ neg (var 2)

  abbrev mbᴱ : Expr
  mbᴱ = var 0 ⊗ var 1

  -- the value, with xa and xb for its greatest terms
  abbrev valueᴱ : Expr
  valueᴱ = maᴱ ⊗ var 5 ⊕ mbᴱ ⊗ var 6 ⊖ (maᴱ ⊗ var 3 ⊕ mbᴱ ⊗ var 4) ⊕ var 9 ⊕ var 10

  abbrev xa : ℤ
  xa = int_max (pos 0) (d *ℤ ma)

  abbrev xb : ℤ
  xb = int_max (pos 0) (d *ℤ mb)

  -- where a corner is on the inner side, the test holds
  corner-holds : NN here → NN (value_in ma mb va vb pa pb d)
  corner-holds h =
      by-nn (ρc xa xb (pos 0) (pos 0)) valueᴱ
      (nn hereᴱ h ⊞ le (var 7 ⊗ maᴱ) (var 9) (at_most d ma hα) ⊞ le (var 8 ⊗ mbᴱ) (var 10) (at_most d mb hβ)) tt

  -- where the whole square is, each corner is
  square-corner : let ya = int_min (pos 0) (d *ℤ ma) in let yb = int_min (pos 0) (d *ℤ mb) in (xa -ℤ ya +ℤ (xb -ℤ yb)) ≤ℤ value_in ma mb va vb pa pb d → NN here
  square-corner h =
      let ya = int_min (pos 0) (d *ℤ ma) in
      let yb = int_min (pos 0) (d *ℤ mb) in
      by-nn (ρc xa xb ya yb) hereᴱ
      (le (var 9 ⊖ var 11 ⊕ (var 10 ⊖ var 12)) valueᴱ h ⊞ le (var 11) (var 7 ⊗ maᴱ) (at_least d ma hα) ⊞ le (var 12) (var 8 ⊗ mbᴱ) (at_least d mb hβ)) tt

-- the square's spread, as it is computed
module _ {d : ℤ} (h : pos 0 ≤ℤ d) where
  spread-of : (m : ℤ) → int_max (pos 0) (d *ℤ m) -ℤ int_min (pos 0) (d *ℤ m) ≡ d *ℤ pos (nat_abs m)
  spread-of m =
      ap₂ ◌-ℤ◌ (max-scale m h) (min-scale m h)
      ∙ ring (d ∷ int_max (pos 0) m ∷ int_min (pos 0) m ∷ []) (var 0 ⊗ var 1 ⊖ var 0 ⊗ var 2) (var 0 ⊗ (var 1 ⊖ var 2)) tt
      ∙ ap (λ (z : ℤ). d *ℤ z) (spread m)

  size_of : (n c : ℤ) → nat_abs (orientation n *ℤ c) ≡ nat_abs c
  size_of n c = ap nat_abs (sym (turned_by n c)) ∙ turned-size n c

  square-is : (n ea eb : ℤ) → let ma = orientation n *ℤ neg_ℤ eb in let mb = orientation n *ℤ ea in
      int_max (pos 0) (d *ℤ ma) -ℤ int_min (pos 0) (d *ℤ ma) +ℤ (int_max (pos 0) (d *ℤ mb) -ℤ int_min (pos 0) (d *ℤ mb)) ≡ d *ℤ (pos (nat_abs ea) +ℤ pos (nat_abs eb))
  square-is n ea eb =
      ap₂ ◌+ℤ◌ (spread-of (orientation n *ℤ neg_ℤ eb) ∙ ap (λ k. d *ℤ pos k) (size_of n (neg_ℤ eb) ∙ abs_neg eb)) (spread-of (orientation n *ℤ ea) ∙ ap (λ k. d *ℤ pos k) (size_of n ea))
      ∙ ring (d ∷ pos (nat_abs ea) ∷ pos (nat_abs eb) ∷ []) (var 0 ⊗ var 2 ⊕ var 0 ⊗ var 1) (var 0 ⊗ (var 1 ⊕ var 2)) tt

-- ---- the plane: of the box's corners, one has the wanted sign
module _ (n o v p : Point) (d : ℤ) (through : dot n v ≡ dot n o) where
  abbrev offset_at : (α β γ : ℤ) → ℤ
  offset_at α β γ = n.x *ℤ (p.x +ℤ α -ℤ v.x) +ℤ n.y *ℤ (p.y +ℤ β -ℤ v.y) +ℤ n.z *ℤ (p.z +ℤ γ -ℤ v.z)

  abbrev plane_sum : (x y z : ℤ) → ℤ
  plane_sum x y z = dot n (minus p o) +ℤ x +ℤ y +ℤ z

  pub record Corner (τ : ℤ) : Type 0 where
    pub α : ℤ
    pub β : ℤ
    pub γ : ℤ
    pub stepα : Step d α
    pub stepβ : Step d β
    pub stepγ : Step d γ
    pub wanted : NN (τ *ℤ offset_at α β γ)

  module _ {x y z : ℤ} (mx : Multiple d n.x x) (my : Multiple d n.y y) (mz : Multiple d n.z z) where
    corner-value : plane_sum x y z ≡ offset_at mx.α my.α mz.α
    corner-value =
        by-eq (n.x ∷ n.y ∷ n.z ∷ v.x ∷ v.y ∷ v.z ∷ p.x ∷ p.y ∷ p.z ∷ o.x ∷ o.y ∷ o.z ∷ x ∷ y ∷ z ∷ mx.α ∷ my.α ∷ mz.α ∷ [])
        (var 0 ⊗ (var 6 ⊖ var 9) ⊕ var 1 ⊗ (var 7 ⊖ var 10) ⊕ var 2 ⊗ (var 8 ⊖ var 11) ⊕ var 12 ⊕ var 13 ⊕ var 14)
        (var 0 ⊗ (var 6 ⊕ var 15 ⊖ var 3) ⊕ var 1 ⊗ (var 7 ⊕ var 16 ⊖ var 4) ⊕ var 2 ⊗ (var 8 ⊕ var 17 ⊖ var 5))
        (ze (num 1) (var 12) (var 15 ⊗ var 0) mx.is ⊹ ze (num 1) (var 13) (var 16 ⊗ var 1) my.is ⊹ ze (num 1) (var 14) (var 17 ⊗ var 2) mz.is
        ⊹ ze (num 1) (var 0 ⊗ var 3 ⊕ var 1 ⊗ var 4 ⊕ var 2 ⊗ var 5) (var 0 ⊗ var 9 ⊕ var 1 ⊗ var 10 ⊕ var 2 ⊗ var 11) through) tt

    corner-of : (τ : ℤ) → NN (τ *ℤ plane_sum x y z) → Corner τ
    corner-of τ h = record {
      α = mx.α;
      β = my.α;
      γ = mz.α;
      stepα = mx.step;
      stepβ = my.step;
      stepγ = mz.step;
      wanted = subst (λ v. NN (τ *ℤ v)) corner-value h;
    }

  corner-for : plane_sum (int_min (pos 0) (d *ℤ n.x)) (int_min (pos 0) (d *ℤ n.y)) (int_min (pos 0) (d *ℤ n.z)) ≤ℤ pos 0
      → pos 0 ≤ℤ plane_sum (int_max (pos 0) (d *ℤ n.x)) (int_max (pos 0) (d *ℤ n.y)) (int_max (pos 0) (d *ℤ n.z)) → (τ : ℤ) → Corner τ
  corner-for l g τ = elim (≤-or-> (pos 0) τ) [
    | inl h ↦ corner-of (greatest-at d n.x) (greatest-at d n.y) (greatest-at d n.z) τ (nn-mul h g)
    | inr h ↦ corner-of (least_at d n.x) (least_at d n.y) (least_at d n.z) τ (nn-mul-neg (<→≤ h) l)
  ]
    where
      nn-mul-neg : {a b : ℤ} → a ≤ℤ pos 0 → b ≤ℤ pos 0 → NN (a *ℤ b)
      nn-mul-neg {a} {b} h k = by-nn (a ∷ b ∷ []) (var 0 ⊗ var 1) (le (var 0) (num 0) h ⊠ le (var 1) (num 0) k) tt

-- ---- the lemma: the edge e from the corner v, and the box with lowest corner p and extent d
module _ (t : Triangle) (e v p : Point) (d : ℤ) (positive : pos 0 ≤ℤ d) (along : dot (normal t) e ≡ pos 0) (through : dot (normal t) v ≡ dot (normal t) t.v0)
    (steep : (normal t).z ≡ pos 0 → ⊥) (plane : plane_holds t p (cube d) ≡ true)
    (square : (d *ℤ (pos (nat_abs e.x) +ℤ pos (nat_abs e.y))) ≤ℤ edge_in (normal t).z e.x e.y v.x v.y p.x p.y d) where
  abbrev n : Point
  n = normal t

  cut_by : (τ : ℤ) → Corner n t.v0 v p d through τ
  cut_by =
      let (l, g) = (and-eq-true_iff (le_z (least8 t p (cube d)) (pos 0)) (le_z (pos 0) (greatest8 t p (cube d)))).0 plane in
      corner-for n t.v0 v p d through
      (subst (λ z. z ≤ℤ pos 0) (least8-sum t p (cube d)) (le-true (least8 t p (cube d)) (pos 0) l))
      (subst (λ z. pos 0 ≤ℤ z) (greatest8-sum t p (cube d)) (le-true (pos 0) (greatest8 t p (cube d)) g))

  square-at : {α β : ℤ} → Step d α → Step d β → NN (orientation n.z *ℤ (e.x *ℤ (p.y +ℤ β -ℤ v.y) -ℤ e.y *ℤ (p.x +ℤ α -ℤ v.x)))
  square-at hα hβ =
      square-corner (orientation n.z) e.x e.y v.x v.y p.x p.y d hα hβ
      (rw (square-is positive n.z e.x e.y) (rw (by_sign n.z e.x e.y v.x v.y p.x p.y d) at square))

  pub yz-holds : pos 0 ≤ℤ edge_in n.x e.y e.z v.y v.z p.y p.z d
  yz-holds =
      let σ = orientation n.z in
      let τ = orientation n.x in
      let c = cut_by (σ *ℤ τ *ℤ e.y) in
      rw (by_sign n.x e.y e.z v.y v.z p.y p.z d)
      (corner-holds τ e.y e.z v.y v.z p.y p.z d c.stepβ c.stepγ
      (gx-nn n.x n.y n.z e.x e.y e.z _ _ _ along σ τ (orientation-pos n.z steep) (orientation-nn n.x) (square-at c.stepα c.stepβ) c.wanted))

  pub zx-holds : pos 0 ≤ℤ edge_in n.y e.z e.x v.z v.x p.z p.x d
  zx-holds =
      let σ = orientation n.z in
      let τ = orientation n.y in
      let c = cut_by (neg_ℤ (σ *ℤ τ *ℤ e.x)) in
      rw (by_sign n.y e.z e.x v.z v.x p.z p.x d)
      (corner-holds τ e.z e.x v.z v.x p.z p.x d c.stepγ c.stepα
      (gy-nn n.x n.y n.z e.x e.y e.z _ _ _ along σ τ (orientation-pos n.z steep) (orientation-nn n.y) (square-at c.stepα c.stepβ) c.wanted))
