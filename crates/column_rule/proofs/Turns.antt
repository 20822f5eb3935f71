-- The overlap rule does not depend on which axis comes first.
--     turn-rule      a triangle and a box, their axes taken in turn
--     turn-picks     a triangle's box of cells
-- Assumes nothing.
use mathlib.Core.Path.{◌≡◌, refl, sym, ap, ap₂, ◌∙◌}
use mathlib.Core.Bool.{Bool, true, false, ◌&&◌, and_comm, and_assoc}
use mathlib.Core.List.{[], ◌∷◌}
use Prim.Native.Nat.{ℕ}
use lib.IntN.{ℤ, pos, ◌+ℤ◌, ◌*ℤ◌}
use lib.Signed.{le_z}
use Rattle.std.specs.Int.{int_min, int_max}
use Rattle.integers.proofs.Expr.{var, ◌⊕◌}
use Rattle.integers.proofs.Ring.{ring}
use Rattle.geometry.specs.declared.Point.{Point}
use Rattle.geometry.specs.declared.Triangle.{Triangle}
use Rattle.geometry.specs.Geometry.{dot, minus, cube, x_of, y_of, z_of}
use Rattle.grid.specs.declared.Lattice.{Lattice}
use Rattle.overlap.specs.Rule.{normal, box_holds, plane_holds, edges_hold, overlaps_box}
use Rattle.overlap.proofs.Corners.{least8-sum, greatest8-sum}
use Rattle.grid.specs.declared.BoxRange.{BoxRange}
use Rattle.ranges.specs.Range.{PicksBox}
use Rattle.column_rule.specs.Turn.{turn_point, turn_triangle, turn_lattice, turn_box}

module _ (t : Triangle) (p : Point) (d : ℤ) where
  -- a sum over the three axes
  sum-turned : (op : ℤ → ℤ → ℤ) → let n = normal t in let q = minus p t.v0 in
      dot (turn_point n) (turn_point q) +ℤ op (pos 0) (d *ℤ n.y) +ℤ op (pos 0) (d *ℤ n.z) +ℤ op (pos 0) (d *ℤ n.x)
      ≡ dot n q +ℤ op (pos 0) (d *ℤ n.x) +ℤ op (pos 0) (d *ℤ n.y) +ℤ op (pos 0) (d *ℤ n.z)
  sum-turned op =
      let n = normal t in
      let q = minus p t.v0 in
      ring ((n.x *ℤ q.x) ∷ (n.y *ℤ q.y) ∷ (n.z *ℤ q.z) ∷ op (pos 0) (d *ℤ n.x) ∷ op (pos 0) (d *ℤ n.y) ∷ op (pos 0) (d *ℤ n.z) ∷ [])
      (var 1 ⊕ var 2 ⊕ var 0 ⊕ var 4 ⊕ var 5 ⊕ var 3) (var 0 ⊕ var 1 ⊕ var 2 ⊕ var 3 ⊕ var 4 ⊕ var 5) tt

  plane-turned : plane_holds (turn_triangle t) (turn_point p) (cube d) ≡ plane_holds t p (cube d)
  plane-turned =
      let t' = turn_triangle t in
      let p' = turn_point p in
      ap₂ ◌&&◌
      (ap (λ (z : ℤ). le_z z (pos 0)) (least8-sum t' p' (cube d) ∙ sum-turned int_min ∙ sym (least8-sum t p (cube d))))
      (ap (le_z (pos 0)) (greatest8-sum t' p' (cube d) ∙ sum-turned int_max ∙ sym (greatest8-sum t p (cube d))))

  last-first : (a b c : Bool) → (b && c && a) ≡ (a && b && c)
  last-first a b c = and_comm (b && c) a ∙ sym (and_assoc a b c)

  last-first-with : (q a b c : Bool) → (q && b && c && a) ≡ (q && a && b && c)
  last-first-with true a b c = last-first a b c
  last-first-with false a b c = refl

  pub turn-rule : overlaps_box (turn_triangle t) (turn_point p) (cube d) ≡ overlaps_box t p (cube d)
  unfolding overlaps_box
  turn-rule =
      let x = box_holds t p (cube d) x_of in
      let y = box_holds t p (cube d) y_of in
      let z = box_holds t p (cube d) z_of in
      let n = normal t in
      let xy = edges_hold t p (cube d) x_of y_of n.z in
      let yz = edges_hold t p (cube d) y_of z_of n.x in
      let zx = edges_hold t p (cube d) z_of x_of n.y in
      (λ i. last-first x y z i && plane-turned i && yz && zx && xy)
      ∙ last-first-with (x && y && z && plane_holds t p (cube d)) xy yz zx

pub turn-picks : {t : Triangle} {l : Lattice} {nx ny nz : ℕ} {r : BoxRange} → PicksBox t l nx ny nz r
    → PicksBox (turn_triangle t) (turn_lattice l) ny nz nx (turn_box r)
turn-picks p = record { x = p.y; y = p.z; z = p.x }
