-- The least and the greatest of n · (q − v0) over the eight corners q of a box, as a sum with one term for each axis: what the set-up computes.
-- Each law is said once, over an operation that sums pass through: the lesser of two, and the greater.
use mathlib.Core.Path.{◌≡◌, ap, ap₂, ◌∙◌}
use mathlib.Core.List.{List, [], ◌∷◌}
use lib.IntN.{ℤ, pos, ◌+ℤ◌, ◌*ℤ◌, zero-*ℤ}
use Rattle.std.specs.Int.{int_min, int_max}
use Rattle.integers.proofs.Omega.{zarith, +! }
use Rattle.integers.proofs.Laws.{+-right-comm}
use Rattle.integers.proofs.Expr.{var, ◌⊕◌, ◌⊖◌, ◌⊗◌}
use Rattle.integers.proofs.Ring.{ring, ring4}
use Rattle.integers.proofs.MinMax.{min!, max! }
use Rattle.geometry.specs.declared.Point.{Point}
use Rattle.geometry.specs.declared.Triangle.{Triangle}
use Rattle.overlap.specs.Rule.{Side, low, high, step, corner, normal, offset, over_sides, over_corners, least8, greatest8}

min-shift : (k a b : ℤ) → int_min (k +ℤ a) (k +ℤ b) ≡ k +ℤ int_min a b
min-shift k a b = omega (zarith, +! k a, +! k b, +! k (int_min a b), min! a b, min! (k +ℤ a) (k +ℤ b))

max-shift : (k a b : ℤ) → int_max (k +ℤ a) (k +ℤ b) ≡ k +ℤ int_max a b
max-shift k a b = omega (zarith, +! k a, +! k b, +! k (int_max a b), max! a b, max! (k +ℤ a) (k +ℤ b))

-- the order of the terms
x-last : (k x y z : ℤ) → k +ℤ x +ℤ z +ℤ y ≡ k +ℤ z +ℤ y +ℤ x
x-last = ring4 (λ k x y z. k ⊕ x ⊕ z ⊕ y) (λ k x y z. k ⊕ z ⊕ y ⊕ x) tt

x-first : (k x y z : ℤ) → k +ℤ z +ℤ y +ℤ x ≡ k +ℤ x +ℤ y +ℤ z
x-first = ring4 (λ k x y z. k ⊕ z ⊕ y ⊕ x) (λ k x y z. k ⊕ x ⊕ y ⊕ z) tt

module _ (op : ℤ → ℤ → ℤ) (shift : (k a b : ℤ) → op (k +ℤ a) (k +ℤ b) ≡ k +ℤ op a b) where
  -- on one axis
  over-axis : (f : Side → ℤ) (k d n : ℤ) → ((α : Side) → f α ≡ k +ℤ step α d *ℤ n) → over_sides op f ≡ k +ℤ op (pos 0) (d *ℤ n)
  over-axis f k d n h = ap₂ op (h low ∙ ap (λ (z : ℤ). k +ℤ z) (zero-*ℤ n)) (h high) ∙ shift k (pos 0) (d *ℤ n)

  -- on three: z, then y, then x
  over-corners : (f : Side → Side → Side → ℤ) (k : ℤ) (d n : Point)
      → ((α β γ : Side) → f α β γ ≡ k +ℤ step α d.x *ℤ n.x +ℤ step β d.y *ℤ n.y +ℤ step γ d.z *ℤ n.z)
      → over_corners op f ≡ k +ℤ op (pos 0) (d.x *ℤ n.x) +ℤ op (pos 0) (d.y *ℤ n.y) +ℤ op (pos 0) (d.z *ℤ n.z)
  over-corners f k d n h =
      let x : Side → ℤ = λ α. step α d.x *ℤ n.x in
      let y : Side → ℤ = λ β. step β d.y *ℤ n.y in
      let X = op (pos 0) (d.x *ℤ n.x) in
      let Y = op (pos 0) (d.y *ℤ n.y) in
      let Z = op (pos 0) (d.z *ℤ n.z) in
      let over-z : (α β : Side) → over_sides op (λ γ. f α β γ) ≡ k +ℤ x α +ℤ y β +ℤ Z =
      λ α β. over-axis (λ γ. f α β γ) (k +ℤ x α +ℤ y β) d.z n.z (h α β) in
      let over-y : (α : Side) → over_sides op (λ β. over_sides op (λ γ. f α β γ)) ≡ k +ℤ x α +ℤ Z +ℤ Y =
      λ α. over-axis (λ β. over_sides op (λ γ. f α β γ)) (k +ℤ x α +ℤ Z) d.y n.y (λ β. over-z α β ∙ +-right-comm (k +ℤ x α) (y β) Z) in
      over-axis (λ α. over_sides op (λ β. over_sides op (λ γ. f α β γ))) (k +ℤ Z +ℤ Y) d.x n.x (λ α. over-y α ∙ x-last k (x α) Y Z)
      ∙ x-first k X Y Z

-- ---- the eight corners
module _ (t : Triangle) (p d : Point) where
  abbrev ρ : (α β γ : Side) → List ℤ
  ρ α β γ =
      let n = normal t in
      let v = t.v0 in
      n.x ∷ n.y ∷ n.z ∷ p.x ∷ p.y ∷ p.z ∷ v.x ∷ v.y ∷ v.z ∷ step α d.x ∷ step β d.y ∷ step γ d.z ∷ []

  at-corner : (α β γ : Side) → let n = normal t in
      offset t (corner p d α β γ) ≡ offset t p +ℤ step α d.x *ℤ n.x +ℤ step β d.y *ℤ n.y +ℤ step γ d.z *ℤ n.z
  at-corner α β γ =
      ring (ρ α β γ)
      (var 0 ⊗ (var 3 ⊕ var 9 ⊖ var 6) ⊕ var 1 ⊗ (var 4 ⊕ var 10 ⊖ var 7) ⊕ var 2 ⊗ (var 5 ⊕ var 11 ⊖ var 8))
      (var 0 ⊗ (var 3 ⊖ var 6) ⊕ var 1 ⊗ (var 4 ⊖ var 7) ⊕ var 2 ⊗ (var 5 ⊖ var 8) ⊕ var 9 ⊗ var 0 ⊕ var 10 ⊗ var 1 ⊕ var 11 ⊗ var 2)
      tt

  pub least8-sum : let n = normal t in
      least8 t p d ≡ offset t p +ℤ int_min (pos 0) (d.x *ℤ n.x) +ℤ int_min (pos 0) (d.y *ℤ n.y) +ℤ int_min (pos 0) (d.z *ℤ n.z)
  least8-sum = over-corners int_min min-shift (λ α β γ. offset t (corner p d α β γ)) (offset t p) d (normal t) at-corner

  pub greatest8-sum : let n = normal t in
      greatest8 t p d ≡ offset t p +ℤ int_max (pos 0) (d.x *ℤ n.x) +ℤ int_max (pos 0) (d.y *ℤ n.y) +ℤ int_max (pos 0) (d.z *ℤ n.z)
  greatest8-sum = over-corners int_max max-shift (λ α β γ. offset t (corner p d α β γ)) (offset t p) d (normal t) at-corner
