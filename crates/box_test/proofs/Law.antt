-- What the rule asks beyond the boxes, by the forms of the triangle measured from the box's lowest corner.
--     forms-law
-- Assumes nothing.
use mathlib.Core.Path.{◌≡◌, ap, ◌∙◌}
use mathlib.Core.Bool.{Bool, ◌&&◌}
use mathlib.Core.List.{[], ◌∷◌}
use lib.IntN.{ℤ, pos, neg_ℤ, ◌+ℤ◌, ◌-ℤ◌, ◌*ℤ◌}
use lib.Signed.{◌≤ℤ◌, le_z}
use Rattle.std.specs.Int.{int_max}
use Rattle.integers.proofs.Expr.{var, num, ◌⊕◌, ◌⊖◌, ◌⊗◌}
use Rattle.integers.proofs.Ring.{ring}
use Rattle.integers.proofs.Scales.{max-scale}
use Rattle.geometry.specs.declared.Point.{Point}
use Rattle.geometry.specs.declared.Triangle.{Triangle}
use Rattle.geometry.specs.Geometry.{point, minus, cube}
use Rattle.geometry.specs.Inner.{measured_from}
use Rattle.grid.specs.declared.Lattice.{Lattice}
use Rattle.grid.specs.Grid.{box_corner}
use Rattle.overlap.specs.Rule.{turned, normal, plane_holds}
use Rattle.forms.specs.declared.PlaneForm.{PlaneForm}
use Rattle.forms.specs.Triangle.{edge_form, plane_form}
use Rattle.column_rule.specs.Column.{forms_hold}
use Rattle.column_rule.proofs.Edge.{edge_in}
use Rattle.column_rule.proofs.Values.{plane-slab}
use Rattle.column_rule.proofs.Law.{shift, normal-moved}
use Rattle.box_test.specs.Inner.{plane_meets, edge_meets, forms_meet}

-- ---- an edge: its value is the constant of its form
edge-constant : (n ea eb va vb pa pb : ℤ) {d : ℤ} → pos 0 ≤ℤ d → edge_in n ea eb va vb pa pb d ≡ (edge_form n ea eb (va -ℤ pa) (vb -ℤ pb) (pos 0) d).c
edge-constant n ea eb va vb pa pb {d} h =
    let ma = turned n (neg_ℤ eb) in
    let mb = turned n ea in
    (λ l. ma *ℤ pa +ℤ mb *ℤ pb -ℤ (ma *ℤ va +ℤ mb *ℤ vb) +ℤ max-scale ma h l +ℤ max-scale mb h l)
    ∙ ring (ma ∷ mb ∷ va ∷ vb ∷ int_max (pos 0) ma ∷ int_max (pos 0) mb ∷ pa ∷ pb ∷ d ∷ [])
    (var 0 ⊗ var 6 ⊕ var 1 ⊗ var 7 ⊖ (var 0 ⊗ var 2 ⊕ var 1 ⊗ var 3) ⊕ var 8 ⊗ var 4 ⊕ var 8 ⊗ var 5)
    (var 8 ⊗ (var 4 ⊕ var 5) ⊖ (var 0 ⊗ (var 2 ⊖ var 6) ⊕ var 1 ⊗ (var 3 ⊖ var 7)))
    tt

-- the edge from (va, vb) to (wa, wb), both measured from the box
edge-meets : (n va vb wa wb pa pb : ℤ) {d : ℤ} → pos 0 ≤ℤ d
    → le_z (pos 0) (edge_in n (wa -ℤ va) (wb -ℤ vb) va vb pa pb d) ≡ edge_meets n (va -ℤ pa) (vb -ℤ pb) (wa -ℤ pa) (wb -ℤ pb) d
unfolding edge_meets
edge-meets n va vb wa wb pa pb {d} h =
    ap (le_z (pos 0))
    (edge-constant n (wa -ℤ va) (wb -ℤ vb) va vb pa pb h ∙ (λ l. (edge_form n (shift wa va pa l) (shift wb vb pb l) (va -ℤ pa) (vb -ℤ pb) (pos 0) d).c))

-- ---- the plane: the box is the first of a lattice
module _ (t : Triangle) (p : Point) {d : ℤ} (h : pos 0 ≤ℤ d) where
  abbrev l : Lattice
  l = record { first = p; step = pos 0; extent = d }

  abbrev f : PlaneForm
  f = plane_form (normal t) (minus t.v0 p) (pos 0) d

  none_more : (a : ℤ) → a ≡ a +ℤ pos 0
  none_more a = ring (a ∷ []) (var 0) (var 0 ⊕ num 0) tt

  first-box : p ≡ box_corner l 0 0 0
  first-box = λ i. point (none_more p.x i) (none_more p.y i) (none_more p.z i)

  at_first : f.w *ℤ pos 0 +ℤ (f.at +ℤ f.u *ℤ pos 0 +ℤ f.v *ℤ pos 0) ≡ f.at
  at_first =
      ring (f.u ∷ f.v ∷ f.w ∷ f.at ∷ []) (var 2 ⊗ num 0 ⊕ (var 3 ⊕ var 0 ⊗ num 0 ⊕ var 1 ⊗ num 0)) (var 3) tt

  plane-meets : plane_holds t p (cube d) ≡ plane_meets (normal t) (minus t.v0 p) d
  unfolding plane_meets
  plane-meets = ap (λ (q : Point). plane_holds t q (cube d)) first-box ∙ plane-slab t l h 0 0 0 ∙ (λ i. le_z (pos 0) (at_first i) && le_z (at_first i) f.reach)

  -- ---- together
  abbrev n : Point
  n = normal t

  pub forms-law : forms_hold t p (cube d) ≡ forms_meet (measured_from p t) d
  unfolding forms_hold forms_meet
  forms-law =
      let a = t.v0 in
      let b = t.v1 in
      let c = t.v2 in
      (λ i.
      plane-meets i
      && (edge-meets n.z a.x a.y b.x b.y p.x p.y h i && edge-meets n.z b.x b.y c.x c.y p.x p.y h i && edge-meets n.z c.x c.y a.x a.y p.x p.y h i)
      && (edge-meets n.x a.y a.z b.y b.z p.y p.z h i && edge-meets n.x b.y b.z c.y c.z p.y p.z h i && edge-meets n.x c.y c.z a.y a.z p.y p.z h i)
      && (edge-meets n.y a.z a.x b.z b.x p.z p.x h i && edge-meets n.y b.z b.x c.z c.x p.z p.x h i && edge-meets n.y c.z c.x a.z a.x p.z p.x h i))
      ∙ ap (by_normal (measured_from p t)) (normal-moved p t)
    where
      -- the forms, by the normal
      by_normal : Triangle → Point → Bool
      by_normal t m =
          let v0 = t.v0 in
          let v1 = t.v1 in
          let v2 = t.v2 in
          plane_meets m v0 d
          && (edge_meets m.z v0.x v0.y v1.x v1.y d && edge_meets m.z v1.x v1.y v2.x v2.y d && edge_meets m.z v2.x v2.y v0.x v0.y d)
          && (edge_meets m.x v0.y v0.z v1.y v1.z d && edge_meets m.x v1.y v1.z v2.y v2.z d && edge_meets m.x v2.y v2.z v0.y v0.z d)
          && (edge_meets m.y v0.z v0.x v1.z v1.x d && edge_meets m.y v1.z v1.x v2.z v2.x d && edge_meets m.y v2.z v2.x v0.z v0.x d)
