-- The rule's tests, each as a statement that some corner is on the inner side of something:
--     boxes: for each side of the box, some corner of the triangle is on the inner side of it;
--     plane: some corner of the box is on or above the triangle's plane, and some corner is on or below it;
--     edges: in each coordinate plane, for each edge of the triangle, some corner of the box is on the inner side of it.
-- Both halves of the theorem stand on these statements (`Passes`), and nothing after this file has a least, a greatest or a Boolean.
use mathlib.Core.Path.{◌≡◌, sym, ◌∙◌, ap₂, subst}
use mathlib.Core.Logic.Iff
use mathlib.Core.Logic.{◌↔◌, ◌⊎◌, inl, inr}
use mathlib.Core.Bool.{Bool, true, false, cond, ◌&&◌}
use mathlib.Core.List.{[], ◌∷◌}
use lib.Dec.{T}
use lib.IntN.{ℤ, pos, negsuc, neg_ℤ, ◌+ℤ◌, ◌-ℤ◌, ◌*ℤ◌, +ℤ_idr, zero-*ℤ}
use lib.Signed.{◌≤ℤ◌, le_z, lt_z, le_z_yes, ≤ℤ_refl}
use Rattle.std.specs.Int.{int_min, int_max}
use Rattle.integers.proofs.Laws.{NN, ≤_trans, ≤-add}
use Rattle.integers.proofs.Expr.{Expr, lit, var, num, ◌⊕◌, ◌⊗◌, ◌⊖◌, neg}
use Rattle.integers.proofs.Certificates.{nn, le, ze, ◌⊞◌, ◌⊹◌, by-nn, by_le, by-eq}
use Rattle.integers.proofs.MinMax.{min-≤-left, min-≤-right, min-either, ≤-max-left, ≤-max-right, max-either}
use Rattle.integers.proofs.Orientation.{orientation, turned_by}
use Rattle.geometry.specs.declared.Point.{Point}
use Rattle.geometry.specs.declared.Triangle.{Triangle}
use Rattle.geometry.specs.Geometry.{point, Axis, x_of, y_of, z_of}
use Rattle.overlap.specs.Rule.{normal, box_holds, Side, low, high, step, corner, offset, over_sides, over_corners, plane_holds, turned, edge_value, overlaps_box, greatest3, least3, greatest8, least8}
use Rattle.reach.proofs.Quadrant.{Some, IsSign, plus, minus}
use Rattle.reach.proofs.Sides.{on, sign, on_side, side, each-side}

-- ---- a Boolean that tests a statement
pub record Decides (b : Bool) (A : Type 0) : Type 0 where
  pub iff : T b ↔ A

restate : {b : Bool} {A B : Type 0} → Decides b A → (A ↔ B) → Decides b B
restate d e = record { iff = Iff.trans d.iff e }

is-at-most : (a b : ℤ) → Decides (le_z a b) (a ≤ℤ b)
is-at-most a b = record { iff = (λ h. le_z_yes h, λ h. h.le) }

both : {a b : Bool} {A B : Type 0} → Decides a A → Decides b B → Decides (a && b) (A × B)
both {a} {b} f g = record { iff = (λ h. let (u, v) = split a b h in (f.iff.0 u, g.iff.0 v), λ (u, v). join a b (f.iff.1 u) (g.iff.1 v)) }
  where
    split : (a b : Bool) → T (a && b) → T a × T b
    split true true h = (tt, tt)
    split true false h = absurd h
    split false b h = absurd h

    join : (a b : Bool) → T a → T b → T (a && b)
    join true true h k = tt
    join true false h k = k
    join false b h k = absurd h

-- ---- z is on the inner side of c: c ≤ z for a low side, z ≤ c for a high one
abbrev pub Inner : Side → (c z : ℤ) → Type 0
Inner α c z = NN (sign α *ℤ (z -ℤ c))

inner-low : (c z : ℤ) → c ≤ℤ z ↔ Inner low c z
inner-low c z =
    let ρ = c ∷ z ∷ [] in let C = var 0 in let Z = var 1 in
    (λ h. by-nn ρ (num 1 ⊗ (Z ⊖ C)) (le C Z h) tt, λ h. by_le ρ C Z (nn (num 1 ⊗ (Z ⊖ C)) h) tt)

inner-high : (c z : ℤ) → z ≤ℤ c ↔ Inner high c z
inner-high c z =
    let ρ = c ∷ z ∷ [] in let C = var 0 in let Z = var 1 in
    (λ h. by-nn ρ (lit (negsuc 0) ⊗ (Z ⊖ C)) (le Z C h) tt, λ h. by_le ρ Z C (nn (lit (negsuc 0) ⊗ (Z ⊖ C)) h) tt)

inner-trans : (α : Side) (a b c : ℤ) → Inner α a b → Inner α b c → Inner α a c
inner-trans α a b c h k =
    let S = var 0 in let A = var 1 in let B = var 2 in let C = var 3 in
    by-nn (sign α ∷ a ∷ b ∷ c ∷ []) (S ⊗ (C ⊖ A)) (nn (S ⊗ (B ⊖ A)) h ⊞ nn (S ⊗ (C ⊖ B)) k) tt

-- the farthest of two numbers on the inner side: the greatest for a low side, the least for a high one
abbrev farthest : Side → ℤ → ℤ → ℤ
farthest low a b = int_max a b
farthest high a b = int_min a b

farthest-is : (α : Side) (a b : ℤ) → (farthest α a b ≡ a) ⊎ (farthest α a b ≡ b)
farthest-is low a b = max-either a b
farthest-is high a b = min-either a b

farthest-left : (α : Side) (a b : ℤ) → Inner α a (farthest α a b)
farthest-left low a b = (inner-low a (int_max a b)).0 (≤-max-left a b)
farthest-left high a b = (inner-high a (int_min a b)).0 (min-≤-left a b)

farthest-right : (α : Side) (a b : ℤ) → Inner α b (farthest α a b)
farthest-right low a b = (inner-low b (int_max a b)).0 (≤-max-right a b)
farthest-right high a b = (inner-high b (int_min a b)).0 (min-≤-right a b)

-- it is on the inner side exactly when one of the two is
module _ (α : Side) (c : ℤ) where
  of_two : (a b : ℤ) → Inner α c (farthest α a b) ↔ (Inner α c a ⊎ Inner α c b)
  of_two a b = (
    λ h. elim (farthest-is α a b) [ inl e ↦ inl (subst (Inner α c) e h) | inr e ↦ inr (subst (Inner α c) e h) ],
    λ s. elim s [
      | inl h ↦ inner-trans α c a (farthest α a b) h (farthest-left α a b)
      | inr h ↦ inner-trans α c b (farthest α a b) h (farthest-right α a b)
    ],
  )

  -- of three corners
  of_three : (x : Point) → Inner α c (farthest α (farthest α x.x x.y) x.z) ↔ Some (on_side (sign α) c x)
  of_three x = (
    λ h. elim ((of_two (farthest α x.x x.y) x.z).0 h) [
      | inl k ↦ elim ((of_two x.x x.y).0 k) [ inl l ↦ inl l | inr l ↦ inr (inl l) ]
      | inr k ↦ inr (inr k)
    ],
    λ s. (of_two (farthest α x.x x.y) x.z).1 (elim s [
      | inl k ↦ inl ((of_two x.x x.y).1 (inl k))
      | inr r ↦ elim r [ inl k ↦ inl ((of_two x.x x.y).1 (inr k)) | inr k ↦ inr k ]
    ]),
  )

  -- of the two sides of an axis, and of the eight corners of a box
  of-sides : (f : Side → ℤ) → Inner α c (over_sides (farthest α) f) ↔ ((β : Side) × Inner α c (f β))
  of-sides f = (λ h. elim ((of_two (f low) (f high)).0 h) [ inl k ↦ (low, k) | inr k ↦ (high, k) ], λ (β, h). (of_two (f low) (f high)).1 (this β h))
    where
      this : (β : Side) → Inner α c (f β) → Inner α c (f low) ⊎ Inner α c (f high)
      this low h = inl h
      this high h = inr h

  of-corners : (f : Side → Side → Side → ℤ) → Inner α c (over_corners (farthest α) f) ↔ ((β : Side) × (γ : Side) × (δ : Side) × Inner α c (f β γ δ))
  of-corners f = (
    λ h.
        let (β, hβ) = (of-sides (λ β. over_sides (farthest α) (λ γ. over_sides (farthest α) (f β γ)))).0 h in
        let (γ, hγ) = (of-sides (λ γ. over_sides (farthest α) (f β γ))).0 hβ in
        let (δ, hδ) = (of-sides (f β γ)).0 hγ in
        (β, γ, δ, hδ),
    λ (β, γ, δ, h).
        (of-sides (λ β. over_sides (farthest α) (λ γ. over_sides (farthest α) (f β γ)))).1
        (β, (of-sides (λ γ. over_sides (farthest α) (f β γ))).1 (γ, (of-sides (f β γ)).1 (δ, h))),
  )

-- the least of some numbers is at most c and the greatest is at least b: some are on the inner side of the high side at c, and of the low side at b
two-sided : (P : Side → Type 0) (l g c b : ℤ) → (Inner high c l ↔ P high) → (Inner low (b +ℤ pos 0) g ↔ P low)
    → Decides (le_z l c && le_z b g) ((α : Side) → P α)
two-sided P l g c b at_high at_low =
    let least = restate (is-at-most l c) (Iff.trans (inner-high c l) at_high) in
    let greatest = restate (is-at-most b g) (Iff.trans (subst (λ z. b ≤ℤ g ↔ Inner low z g) (sym (+ℤ_idr b)) (inner-low b g)) at_low) in
    restate (both least greatest) (λ (h, l). each-side P l h, λ h. (h high, h low))

-- ---- the box and the plane
box-test : (t : Triangle) (p d : Point) (a : Axis) → Decides (box_holds t p d a) ((α : Side) → Some (side (a p) (a d) (on t a) α))
box-test t p d a =
    two-sided (λ α. Some (side (a p) (a d) (on t a) α)) (least3 a t) (greatest3 a t) (a p +ℤ a d) (a p)
    (of_three high (a p +ℤ a d) (on t a)) (of_three low (a p +ℤ pos 0) (on t a))

-- a corner of the box on or above the plane (a low side), or on or below it (a high one)
abbrev pub Cut : Triangle → (p d : Point) → Side → Type 0
Cut t p d ε = (α : Side) × (β : Side) × (γ : Side) × Inner ε (pos 0) (offset t (corner p d α β γ))

plane-test : (t : Triangle) (p d : Point) → Decides (plane_holds t p d) ((ε : Side) → Cut t p d ε)
plane-test t p d =
    let f : Side → Side → Side → ℤ = λ α β γ. offset t (corner p d α β γ) in
    two-sided (Cut t p d) (least8 t p d) (greatest8 t p d) (pos 0) (pos 0) (of-corners high (pos 0) f) (of-corners low (pos 0) f)

-- ---- the edges
-- the orientation of n is the sign by which the rule turns an edge's normal inward
pub orientation-sign : (n : ℤ) → IsSign (orientation n)
orientation-sign n = go (lt_z n (pos 0))
  where
    go : (c : Bool) → IsSign (cond c (negsuc 0) (pos 1))
    go true = minus
    go false = plus

-- of the multiples 0 · m and d · m, the greatest belongs to a side, and is at least that of either side
greatest-at : (d m : ℤ) → (α : Side) × (int_max (pos 0) (d *ℤ m) ≡ step α d *ℤ m)
greatest-at d m = elim (max-either (pos 0) (d *ℤ m)) [ inl e ↦ (low, e ∙ sym (zero-*ℤ m)) | inr e ↦ (high, e) ]

greatest-of : (d m : ℤ) (α : Side) → (step α d *ℤ m) ≤ℤ int_max (pos 0) (d *ℤ m)
greatest-of d m low = subst (λ z. z ≤ℤ int_max (pos 0) (d *ℤ m)) (sym (zero-*ℤ m)) (≤-max-left (pos 0) (d *ℤ m))
greatest-of d m high = ≤-max-right (pos 0) (d *ℤ m)

-- In a coordinate plane, an edge goes from (x, y) to (x', y'): how far the point (c, k) is on the side σ of it.
abbrev pub beside : (σ x y x' y' c k : ℤ) → ℤ
beside σ x y x' y' c k = σ *ℤ ((x' -ℤ x) *ℤ (k -ℤ y) -ℤ (y' -ℤ y) *ℤ (c -ℤ x))

abbrev pub besideᴱ : (σ x y x' y' c k : Expr) → Expr
besideᴱ σ x y x' y' c k = σ ⊗ ((x' ⊖ x) ⊗ (k ⊖ y) ⊖ (y' ⊖ y) ⊗ (c ⊖ x))

-- There the box is a rectangle, from (p, q) with the size (d, e). Some corner of it is on the side σ of the edge, or on its line.
pub record EdgeTest (σ p d q e x y x' y' : ℤ) : Type 0 where
  pub α : Side
  pub β : Side
  pub inner : NN (beside σ x y x' y' (p +ℤ step α d) (q +ℤ step β e))

module _ (n p d q e x y x' y' : ℤ) where
  -- the rule's value: m · (p, q) − m · (x, y), and the greatest multiple on each axis
  abbrev value : ℤ
  value = edge_value x_of y_of n (point (x' -ℤ x) (y' -ℤ y) (pos 0)) (point x y (pos 0)) (point p q (pos 0)) (point d e (pos 0))

  abbrev ma : ℤ
  ma = turned n (neg_ℤ (y' -ℤ y))

  abbrev mb : ℤ
  mb = turned n (x' -ℤ x)

  abbrev base : ℤ
  base = ma *ℤ p +ℤ mb *ℤ q -ℤ (ma *ℤ x +ℤ mb *ℤ y)

  -- with the multiples of the sides α and β, it is the number of the corner on these sides
  value-at : (α β : Side) → base +ℤ step α d *ℤ ma +ℤ step β e *ℤ mb ≡ beside (orientation n) x y x' y' (p +ℤ step α d) (q +ℤ step β e)
  value-at α β =
      let P = var 0 in let Q = var 1 in let X = var 2 in let Y = var 3 in let X' = var 4 in let Y' = var 5 in
      let S = var 6 in let MA = var 7 in let MB = var 8 in let A = var 9 in let B = var 10 in
      by-eq (p ∷ q ∷ x ∷ y ∷ x' ∷ y' ∷ orientation n ∷ ma ∷ mb ∷ step α d ∷ step β e ∷ [])
      (MA ⊗ P ⊕ MB ⊗ Q ⊖ (MA ⊗ X ⊕ MB ⊗ Y) ⊕ A ⊗ MA ⊕ B ⊗ MB) (besideᴱ S X Y X' Y' (P ⊕ A) (Q ⊕ B))
      (ze (P ⊕ A ⊖ X) MA (S ⊗ neg (Y' ⊖ Y)) (turned_by n (neg_ℤ (y' -ℤ y))) ⊹ ze (Q ⊕ B ⊖ Y) MB (S ⊗ (X' ⊖ X)) (turned_by n (x' -ℤ x))) tt

  edge_test : Decides (le_z (pos 0) value) (EdgeTest (orientation n) p d q e x y x' y')
  edge_test = restate (is-at-most (pos 0) value) (to-corner, to-value)
    where
      to-corner : NN value → EdgeTest (orientation n) p d q e x y x' y'
      to-corner h =
          let (α, ea) = greatest-at d ma in let (β, eb) = greatest-at e mb in
          record { α = α; β = β; inner = subst NN (ap₂ (λ a b. base +ℤ a +ℤ b) ea eb ∙ value-at α β) h }

      to-value : EdgeTest (orientation n) p d q e x y x' y' → NN value
      to-value c =
          ≤_trans (subst NN (sym (value-at c.α c.β)) c.inner)
          (≤-add (≤-add (≤ℤ_refl base) (greatest-of d ma c.α)) (greatest-of e mb c.β))

-- the three edges of a triangle whose corners have the coordinates x and y
pub record EdgeTests (σ p d q e : ℤ) (x y : Point) : Type 0 where
  pub e0 : EdgeTest σ p d q e x.x y.x x.y y.y
  pub e1 : EdgeTest σ p d q e x.y y.y x.z y.z
  pub e2 : EdgeTest σ p d q e x.z y.z x.x y.x

module _ (n p d q e : ℤ) (x y : Point) where
  edge-tests : Decides (le_z (pos 0) (value n p d q e x.x y.x x.y y.y) && le_z (pos 0) (value n p d q e x.y y.y x.z y.z)
      && le_z (pos 0) (value n p d q e x.z y.z x.x y.x)) (EdgeTests (orientation n) p d q e x y)
  edge-tests =
      let two = both (edge_test n p d q e x.x y.x x.y y.y) (edge_test n p d q e x.y y.y x.z y.z) in
      restate (both two (edge_test n p d q e x.z y.z x.x y.x))
      (λ r. record { e0 = r.0.0; e1 = r.0.1; e2 = r.1 }, λ r. ((r.e0, r.e1), r.e2))

-- ---- the rule
pub record Passes (t : Triangle) (p d : Point) : Type 0 where
  pub x : (α : Side) → Some (side p.x d.x (on t x_of) α)
  pub y : (α : Side) → Some (side p.y d.y (on t y_of) α)
  pub z : (α : Side) → Some (side p.z d.z (on t z_of) α)
  pub plane : (ε : Side) → Cut t p d ε
  pub xy : EdgeTests (orientation (normal t).z) p.x d.x p.y d.y (on t x_of) (on t y_of)
  pub yz : EdgeTests (orientation (normal t).x) p.y d.y p.z d.z (on t y_of) (on t z_of)
  pub zx : EdgeTests (orientation (normal t).y) p.z d.z p.x d.x (on t z_of) (on t x_of)

pub rule-tests : (t : Triangle) (p d : Point) → Decides (overlaps_box t p d) (Passes t p d)
unfolding overlaps_box
rule-tests t p d =
    let boxes = both (both (box-test t p d x_of) (box-test t p d y_of)) (box-test t p d z_of) in
    let xy = edge-tests (normal t).z p.x d.x p.y d.y (on t x_of) (on t y_of) in
    let yz = edge-tests (normal t).x p.y d.y p.z d.z (on t y_of) (on t z_of) in
    let zx = edge-tests (normal t).y p.z d.z p.x d.x (on t z_of) (on t x_of) in
    restate (both (both (both (both boxes (plane-test t p d)) xy) yz) zx) (
      λ ((((((x, y), z), plane), xy), yz), zx). record { x = x; y = y; z = z; plane = plane; xy = xy; yz = yz; zx = zx },
      λ r. ((((((r.x, r.y), r.z), r.plane), r.xy), r.yz), r.zx),
    )
