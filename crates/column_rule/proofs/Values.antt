-- The rule's values of a box of a lattice, by the forms of the triangle.
--     edge-value     an edge's value in the plane of two axes is its form
--     plane-slab     the plane's test is the slab of its form
-- Assumes nothing.
use mathlib.Core.Path.{◌≡◌, refl, sym, ap, ap₂, ◌∙◌}
use mathlib.Core.Bool.{Bool, true, false, cond, ◌&&◌, and_comm}
use mathlib.Core.List.{List, [], ◌∷◌}
use Prim.Native.Nat.{ℕ}
use lib.IntN.{ℤ, pos, neg_ℤ, nat_abs, ◌+ℤ◌, ◌-ℤ◌, ◌*ℤ◌}
use lib.Signed.{◌≤ℤ◌, le_z, lt_z}
use Rattle.std.specs.Int.{int_min, int_max}
use Rattle.integers.proofs.Omega.{zarith, +!, -!, neg!, abs! }
use Rattle.integers.proofs.Expr.{Expr, var, num, neg, ◌⊕◌, ◌⊖◌, ◌⊗◌}
use Rattle.integers.proofs.Ring.{ring}
use Rattle.integers.proofs.Certificates.{ze, ◌⊹◌, by-eq}
use Rattle.integers.proofs.MinMax.{min!, max! }
use Rattle.integers.proofs.Scales.{max-scale, min-scale, spread}
use Rattle.geometry.specs.declared.Point.{Point}
use Rattle.geometry.specs.declared.Triangle.{Triangle}
use Rattle.geometry.specs.Geometry.{dot, minus, cube}
use Rattle.grid.specs.declared.Lattice.{Lattice}
use Rattle.grid.specs.Grid.{box_corner}
use Rattle.overlap.specs.Rule.{normal, turned, plane_holds}
use Rattle.overlap.proofs.Corners.{least8-sum, greatest8-sum}
use Rattle.forms.specs.Triangle.{edge_form, plane_form}
use Rattle.runs.specs.Run.{form_at}
use Rattle.integers.proofs.Truth.{same_truth}
use Rattle.column_rule.specs.Column.{plane_passes}
use Rattle.column_rule.proofs.Edge.{edge_in}

-- ---- an edge, in the plane of two axes: the box has the numbers i and j there, in a lattice that begins at (oa, ob)
pub edge-value : (n ea eb va vb oa ob s : ℤ) {d : ℤ} → pos 0 ≤ℤ d → (i j : ℤ) → let f = edge_form n ea eb (va -ℤ oa) (vb -ℤ ob) s d in
    edge_in n ea eb va vb (oa +ℤ i *ℤ s) (ob +ℤ j *ℤ s) d ≡ f.a *ℤ i +ℤ f.b *ℤ j +ℤ f.c
edge-value n ea eb va vb oa ob s {d} h i j =
    let ma = turned n (neg_ℤ eb) in
    let mb = turned n ea in
    (λ l. ma *ℤ (oa +ℤ i *ℤ s) +ℤ mb *ℤ (ob +ℤ j *ℤ s) -ℤ (ma *ℤ va +ℤ mb *ℤ vb) +ℤ max-scale ma h l +ℤ max-scale mb h l)
    ∙ ring (ma ∷ mb ∷ va ∷ vb ∷ i ∷ j ∷ int_max (pos 0) ma ∷ int_max (pos 0) mb ∷ oa ∷ ob ∷ s ∷ d ∷ [])
    (var 0 ⊗ (var 8 ⊕ var 4 ⊗ var 10) ⊕ var 1 ⊗ (var 9 ⊕ var 5 ⊗ var 10) ⊖ (var 0 ⊗ var 2 ⊕ var 1 ⊗ var 3) ⊕ var 11 ⊗ var 6 ⊕ var 11 ⊗ var 7)
    (var 10 ⊗ var 0 ⊗ var 4 ⊕ var 10 ⊗ var 1 ⊗ var 5 ⊕ (var 11 ⊗ (var 6 ⊕ var 7) ⊖ (var 0 ⊗ (var 2 ⊖ var 8) ⊕ var 1 ⊗ (var 3 ⊖ var 9))))
    tt

-- ---- the plane
-- A is the greatest value over the box's corners and B the least; F is the slab's form.
module _ (A B F R : ℤ) where
  slab-up : F ≡ A → F ≡ B +ℤ R → (le_z B (pos 0) && le_z (pos 0) A) ≡ (le_z (pos 0) F && le_z F R)
  slab-up e f =
      and_comm (le_z B (pos 0)) (le_z (pos 0) A)
      ∙ ap₂ ◌&&◌ (ap (le_z (pos 0)) (sym e)) (same_truth (le_z B (pos 0)) (le_z F R) (λ b. omega (zarith, +! B R)) (λ b. omega (zarith, +! B R)))

  slab-down : F ≡ neg_ℤ B → F ≡ R -ℤ A → (le_z B (pos 0) && le_z (pos 0) A) ≡ (le_z (pos 0) F && le_z F R)
  slab-down e f =
      ap₂ ◌&&◌ (same_truth (le_z B (pos 0)) (le_z (pos 0) F) (λ b. omega (zarith, neg! B)) (λ b. omega (zarith, neg! B)))
      (same_truth (le_z (pos 0) A) (le_z F R) (λ b. omega (zarith, -! R A)) (λ b. omega (zarith, -! R A)))

-- the numbers of a component of the normal
module _ (x : ℤ) where
  size_is : pos (nat_abs x) ≡ int_max (pos 0) x -ℤ int_min (pos 0) x
  size_is = sym (spread x)

  size-negated : pos (nat_abs (neg_ℤ x)) ≡ int_max (pos 0) x -ℤ int_min (pos 0) x
  size-negated = omega (zarith, neg! x, abs! (neg_ℤ x), max! (pos 0) x, min! (pos 0) x, -! (int_max (pos 0) x) (int_min (pos 0) x))

  max-negated : int_max (pos 0) (neg_ℤ x) ≡ neg_ℤ (int_min (pos 0) x)
  max-negated = omega (zarith, neg! x, neg! (int_min (pos 0) x), max! (pos 0) (neg_ℤ x), min! (pos 0) x)

  sum_is : int_max (pos 0) x +ℤ int_min (pos 0) x ≡ x
  sum_is = omega (zarith, max! (pos 0) x, min! (pos 0) x, +! (int_max (pos 0) x) (int_min (pos 0) x))

  least-of : lt_z x (pos 0) ≡ false → int_min (pos 0) x ≡ pos 0
  least-of h = omega (zarith, min! (pos 0) x)

  greatest-of : lt_z x (pos 0) ≡ true → int_max (pos 0) x ≡ pos 0
  greatest-of h = omega (zarith, max! (pos 0) x)

module _ (t : Triangle) (l : Lattice) (positive : pos 0 ≤ℤ l.extent) (i j k : ℕ) where
  abbrev n : Point
  n = normal t

  abbrev v : Point
  v = t.v0

  abbrev o : Point
  o = l.first

  abbrev d : ℤ
  d = l.extent

  abbrev p : Point
  p = box_corner l i j k

  -- the greatest and the least value over the box's corners
  abbrev A : ℤ
  A = dot n (minus p v) +ℤ d *ℤ int_max (pos 0) n.x +ℤ d *ℤ int_max (pos 0) n.y +ℤ d *ℤ int_max (pos 0) n.z

  abbrev B : ℤ
  B = dot n (minus p v) +ℤ d *ℤ int_min (pos 0) n.x +ℤ d *ℤ int_min (pos 0) n.y +ℤ d *ℤ int_min (pos 0) n.z

  by-sums : plane_holds t p (cube d) ≡ (le_z B (pos 0) && le_z (pos 0) A)
  by-sums =
      let D = dot n (minus p v) in
      ap₂ ◌&&◌
      (ap (λ (z : ℤ). le_z z (pos 0)) (least8-sum t p (cube d) ∙ (λ q. D +ℤ min-scale n.x positive q +ℤ min-scale n.y positive q +ℤ min-scale n.z positive q)))
      (ap (le_z (pos 0)) (greatest8-sum t p (cube d) ∙ (λ q. D +ℤ max-scale n.x positive q +ℤ max-scale n.y positive q +ℤ max-scale n.z positive q)))

  -- nx ny nz, vx vy vz, ox oy oz, i j k, s d, then for each component the greater and the lesser, and two further numbers for x and for y
  abbrev ρ : (ax ay mx my : ℤ) → List ℤ
  ρ ax ay mx my =
      n.x ∷ n.y ∷ n.z ∷ v.x ∷ v.y ∷ v.z ∷ o.x ∷ o.y ∷ o.z ∷ pos i ∷ pos j ∷ pos k ∷ l.step ∷ d ∷ int_max (pos 0) n.x ∷ int_min (pos 0) n.x ∷ int_max (pos 0) n.y
      ∷ int_min (pos 0) n.y ∷ int_max (pos 0) n.z ∷ int_min (pos 0) n.z ∷ ax ∷ ay ∷ mx ∷ my ∷ []

  abbrev sumᴱ : (x y z : Expr) → Expr
  sumᴱ x y z =
      var 0 ⊗ (var 6 ⊕ var 9 ⊗ var 12 ⊖ var 3) ⊕ var 1 ⊗ (var 7 ⊕ var 10 ⊗ var 12 ⊖ var 4) ⊕ var 2 ⊗ (var 8 ⊕ var 11 ⊗ var 12 ⊖ var 5) ⊕ var 13 ⊗ x ⊕ var 13 ⊗ y ⊕ var 13 ⊗ z

  abbrev Aᴱ : Expr
  Aᴱ = sumᴱ (var 14) (var 16) (var 18)

  abbrev Bᴱ : Expr
  Bᴱ = sumᴱ (var 15) (var 17) (var 19)

  -- the slab's form, for the normal (x, y, z), with mx and my for the greater of 0 and x, and of 0 and y; and its reach
  abbrev Fᴱ : (x y z : Expr) → Expr
  Fᴱ x y z =
      var 12 ⊗ z ⊗ var 11
      ⊕ (var 13 ⊗ (var 22 ⊕ var 23 ⊕ z) ⊖ (x ⊗ (var 3 ⊖ var 6) ⊕ y ⊗ (var 4 ⊖ var 7) ⊕ z ⊗ (var 5 ⊖ var 8)) ⊕ var 12 ⊗ x ⊗ var 9 ⊕ var 12 ⊗ y ⊗ var 10)

  abbrev Rᴱ : Expr → Expr
  Rᴱ z = var 13 ⊗ (var 20 ⊕ var 21 ⊕ z)

  abbrev X : (sx sy sz mx my : ℤ) → ℤ
  X x y z mx my =
      form_at (l.step *ℤ z) (d *ℤ (mx +ℤ my +ℤ z) -ℤ (x *ℤ (v.x -ℤ o.x) +ℤ y *ℤ (v.y -ℤ o.y) +ℤ z *ℤ (v.z -ℤ o.z)) +ℤ l.step *ℤ x *ℤ pos i +ℤ l.step *ℤ y *ℤ pos j) k

  module _ (up : lt_z n.z (pos 0) ≡ false) where
    abbrev ρ⁺ : List ℤ
    ρ⁺ = ρ (pos (nat_abs n.x)) (pos (nat_abs n.y)) (int_max (pos 0) n.x) (int_max (pos 0) n.y)

    abbrev F⁺ : ℤ
    F⁺ = X n.x n.y n.z (int_max (pos 0) n.x) (int_max (pos 0) n.y)

    abbrev R⁺ : ℤ
    R⁺ = d *ℤ (pos (nat_abs n.x) +ℤ pos (nat_abs n.y) +ℤ n.z)

    greatest⁺ : F⁺ ≡ A
    greatest⁺ =
        by-eq ρ⁺ (Fᴱ (var 0) (var 1) (var 2)) Aᴱ
        (ze (var 13) (var 22) (var 14) refl ⊹ ze (var 13) (var 23) (var 16) refl ⊹ ze (num 0 ⊖ var 13) (var 18 ⊕ var 19) (var 2) (sum_is n.z)
        ⊹ ze (var 13) (var 19) (num 0) (least-of n.z up)) tt

    least⁺ : F⁺ ≡ B +ℤ R⁺
    least⁺ =
        by-eq ρ⁺ (Fᴱ (var 0) (var 1) (var 2)) (Bᴱ ⊕ Rᴱ (var 2))
        (ze (var 13) (var 22) (var 14) refl ⊹ ze (var 13) (var 23) (var 16) refl ⊹ ze (num 0 ⊖ var 13) (var 20) (var 14 ⊖ var 15) (size_is n.x)
        ⊹ ze (num 0 ⊖ var 13) (var 21) (var 16 ⊖ var 17) (size_is n.y) ⊹ ze (num 0 ⊖ var 13) (var 19) (num 0) (least-of n.z up)) tt

  module _ (down : lt_z n.z (pos 0) ≡ true) where
    abbrev ρ⁻ : List ℤ
    ρ⁻ = ρ (pos (nat_abs (neg_ℤ n.x))) (pos (nat_abs (neg_ℤ n.y))) (int_max (pos 0) (neg_ℤ n.x)) (int_max (pos 0) (neg_ℤ n.y))

    abbrev F⁻ : ℤ
    F⁻ = X (neg_ℤ n.x) (neg_ℤ n.y) (neg_ℤ n.z) (int_max (pos 0) (neg_ℤ n.x)) (int_max (pos 0) (neg_ℤ n.y))

    abbrev R⁻ : ℤ
    R⁻ = d *ℤ (pos (nat_abs (neg_ℤ n.x)) +ℤ pos (nat_abs (neg_ℤ n.y)) +ℤ neg_ℤ n.z)

    least⁻ : F⁻ ≡ neg_ℤ B
    least⁻ =
        by-eq ρ⁻ (Fᴱ (neg (var 0)) (neg (var 1)) (neg (var 2))) (neg Bᴱ)
        (ze (var 13) (var 22) (neg (var 15)) (max-negated n.x) ⊹ ze (var 13) (var 23) (neg (var 17)) (max-negated n.y)
        ⊹ ze (var 13) (var 18 ⊕ var 19) (var 2) (sum_is n.z) ⊹ ze (num 0 ⊖ var 13) (var 18) (num 0) (greatest-of n.z down)) tt

    greatest⁻ : F⁻ ≡ R⁻ -ℤ A
    greatest⁻ =
        by-eq ρ⁻ (Fᴱ (neg (var 0)) (neg (var 1)) (neg (var 2))) (Rᴱ (neg (var 2)) ⊖ Aᴱ)
        (ze (var 13) (var 22) (neg (var 15)) (max-negated n.x) ⊹ ze (var 13) (var 23) (neg (var 17)) (max-negated n.y)
        ⊹ ze (num 0 ⊖ var 13) (var 20) (var 14 ⊖ var 15) (size-negated n.x) ⊹ ze (num 0 ⊖ var 13) (var 21) (var 16 ⊖ var 17) (size-negated n.y)
        ⊹ ze (var 13) (var 18) (num 0) (greatest-of n.z down)) tt

  pub plane-slab : plane_holds t p (cube d) ≡ plane_passes (plane_form n (minus v o) l.step d) (pos i) (pos j) k
  plane-slab = by-sums ∙ go (lt_z n.z (pos 0)) refl
    where
      go : (t : Bool) → lt_z n.z (pos 0) ≡ t → let x = cond t (neg_ℤ n.x) n.x in let y = cond t (neg_ℤ n.y) n.y in let z = cond t (neg_ℤ n.z) n.z in
          (le_z B (pos 0) && le_z (pos 0) A) ≡ (le_z (pos 0) (X x y z (int_max (pos 0) x) (int_max (pos 0) y)) && le_z (X x y z (int_max (pos 0) x) (int_max (pos 0) y)) (d *ℤ (pos (nat_abs x) +ℤ pos (nat_abs y) +ℤ z)))
      go true e = slab-down A B (F⁻ e) (R⁻ e) (least⁻ e) (greatest⁻ e)
      go false e = slab-up A B (F⁺ e) (R⁺ e) (greatest⁺ e) (least⁺ e)
