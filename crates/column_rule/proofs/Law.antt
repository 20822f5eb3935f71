-- The cells that pass column by column are those that the rule lets pass.
--     rule-parts     the rule is the boxes, and what it asks beyond them
--     column-law     beyond the boxes, the rule of a lattice's box is the column's test by the triangle's forms
-- Assumes nothing.
use mathlib.Core.Path.{◌≡◌, refl, sym, ap, ap₂, ◌∙◌, subst}
use mathlib.Core.Bool.{Bool, true, false, cond, ◌&&◌, ◌||◌}
use mathlib.Core.List.{List, [], ◌∷◌}
use Prim.Native.Nat.{ℕ, ◌+◌}
use lib.IntN.{ℤ, pos, nat_abs, ◌+ℤ◌, ◌-ℤ◌, ◌*ℤ◌}
use lib.Signed.{◌≤ℤ◌, ◌<ℤ◌, le_z}
use Rattle.integers.proofs.Omega.{zarith, le-true, true-le}
use Rattle.integers.proofs.Expr.{Expr, var, num, ◌⊕◌, ◌⊖◌, ◌⊗◌}
use Rattle.integers.proofs.Ring.{ring}
use Rattle.geometry.specs.declared.Point.{Point}
use Rattle.geometry.specs.declared.Triangle.{Triangle}
use Rattle.geometry.specs.Geometry.{point, dot, cross, minus, cube, x_of, y_of, z_of}
use Rattle.geometry.specs.Inner.{measured_from}
use Rattle.grid.specs.declared.Lattice.{Lattice}
use Rattle.grid.specs.Grid.{box_corner}
use Rattle.overlap.specs.Rule.{normal, box_holds, plane_holds, overlaps_box}
use Rattle.forms.specs.declared.Edge.{Edge}
use Rattle.forms.specs.Form.{inside_max}
use Rattle.forms.specs.Triangle.{edge_form, inside_from, edge_between, plane_form}
use Rattle.runs.specs.Run.{passes}
use Rattle.column_rule.specs.Column.{forms_hold, uv_of, plane_passes, edge_passes, column_test}
use Rattle.column_rule.proofs.Edge.{edge_in, yz-holds, zx-holds}
use Rattle.column_rule.proofs.Values.{edge-value, plane-slab}

-- ---- truths
swap : (a b c d : Bool) → ((a && b) && (c && d)) ≡ ((a && c) && (b && d))
swap true true c d = refl
swap true false true d = refl
swap true false false d = refl
swap false b c d = refl

-- one edge, with k where it need not be asked
spare : (k y z : Bool) → (k ≡ true → (y ≡ true) × (z ≡ true)) → (y && z) ≡ (k || (y && z))
spare true y z h = ap₂ ◌&&◌ (h refl).0 (h refl).1
spare false y z h = refl

by-edges : (y0 y1 y2 z0 z1 z2 : Bool) → ((y0 && y1 && y2) && (z0 && z1 && z2)) ≡ ((y0 && z0) && (y1 && z1) && (y2 && z2))
by-edges y0 y1 y2 z0 z1 z2 = swap (y0 && y1) y2 (z0 && z1) z2 ∙ ap (λ (b : Bool). b && (y2 && z2)) (swap y0 y1 z0 z1)

abbrev Spares : (p k y z : Bool) → Type 0
Spares p k y z = p ≡ true → k ≡ true → (y ≡ true) × (z ≡ true)

all : (p x : Bool) {k0 y0 z0 k1 y1 z1 k2 y2 z2 : Bool} → Spares p k0 y0 z0 → Spares p k1 y1 z1 → Spares p k2 y2 z2
    → (p && x && (y0 && y1 && y2) && (z0 && z1 && z2)) ≡ (x && (p && (k0 || (y0 && z0)) && (k1 || (y1 && z1)) && (k2 || (y2 && z2))))
all true true {k0} {y0} {z0} {k1} {y1} {z1} {k2} {y2} {z2} h0 h1 h2 =
    by-edges y0 y1 y2 z0 z1 z2 ∙ (λ l. spare k0 y0 z0 (h0 refl) l && spare k1 y1 z1 (h1 refl) l && spare k2 y2 z2 (h2 refl) l)
all true false h0 h1 h2 = refl
all false true h0 h1 h2 = refl
all false false h0 h1 h2 = refl

-- ---- the rule
five : (a b c d e : Bool) → (a && b && c && d && e) ≡ (a && (b && c && d && e))
five true b c d e = refl
five false b c d e = refl

pub rule-parts : (t : Triangle) (p d : Point) → overlaps_box t p d ≡ (box_holds t p d x_of && box_holds t p d y_of && box_holds t p d z_of && forms_hold t p d)
unfolding overlaps_box forms_hold
rule-parts t p d = five (box_holds t p d x_of && box_holds t p d y_of && box_holds t p d z_of) _ _ _ _

-- ---- the triangle's edges lie in its plane, and so do its corners
module _ (t : Triangle) where
  abbrev ρ : List ℤ
  ρ = let a = t.v0 in let b = t.v1 in let c = t.v2 in
      a.x ∷ a.y ∷ a.z ∷ b.x ∷ b.y ∷ b.z ∷ c.x ∷ c.y ∷ c.z ∷ []

  abbrev nᴱ : (α β : ℕ) → Expr
  nᴱ α β = (var (3 + α) ⊖ var α) ⊗ (var (6 + β) ⊖ var β) ⊖ (var (3 + β) ⊖ var β) ⊗ (var (6 + α) ⊖ var α)

  -- n · (x, y, z)
  abbrev dotᴱ : (x y z : Expr) → Expr
  dotᴱ x y z = nᴱ 1 2 ⊗ x ⊕ nᴱ 2 0 ⊗ y ⊕ nᴱ 0 1 ⊗ z

  along0 : dot (normal t) (minus t.v1 t.v0) ≡ pos 0
  along0 = ring ρ (dotᴱ (var 3 ⊖ var 0) (var 4 ⊖ var 1) (var 5 ⊖ var 2)) (num 0) tt

  along1 : dot (normal t) (minus t.v2 t.v1) ≡ pos 0
  along1 = ring ρ (dotᴱ (var 6 ⊖ var 3) (var 7 ⊖ var 4) (var 8 ⊖ var 5)) (num 0) tt

  along2 : dot (normal t) (minus t.v0 t.v2) ≡ pos 0
  along2 = ring ρ (dotᴱ (var 0 ⊖ var 6) (var 1 ⊖ var 7) (var 2 ⊖ var 8)) (num 0) tt

  through1 : dot (normal t) t.v1 ≡ dot (normal t) t.v0
  through1 = ring ρ (dotᴱ (var 3) (var 4) (var 5)) (dotᴱ (var 0) (var 1) (var 2)) tt

  through2 : dot (normal t) t.v2 ≡ dot (normal t) t.v0
  through2 = ring ρ (dotᴱ (var 6) (var 7) (var 8)) (dotᴱ (var 0) (var 1) (var 2)) tt

-- a difference does not depend on where its terms are measured from, and so the normal does not
pub shift : (a b o : ℤ) → a -ℤ b ≡ (a -ℤ o) -ℤ (b -ℤ o)
shift a b o = ring (a ∷ b ∷ o ∷ []) (var 0 ⊖ var 1) (var 0 ⊖ var 2 ⊖ (var 1 ⊖ var 2)) tt

moved : (a b o : Point) → minus a b ≡ minus (minus a o) (minus b o)
moved a b o = λ l. point (shift a.x b.x o.x l) (shift a.y b.y o.y l) (shift a.z b.z o.z l)

pub normal-moved : (o : Point) (t : Triangle) → normal t ≡ normal (measured_from o t)
normal-moved o t = λ l. cross (moved t.v1 t.v0 o l) (moved t.v2 t.v0 o l)

-- ---- one edge, from the corner v to the corner w
module _ (t : Triangle) (l : Lattice) (positive : pos 0 ≤ℤ l.extent) (i j k : ℕ) (v w : Point) (along : dot (normal t) (minus w v) ≡ pos 0)
    (through : dot (normal t) v ≡ dot (normal t) t.v0) where
  abbrev n : Point
  n = normal t

  abbrev e : Point
  e = minus w v

  abbrev o : Point
  o = l.first

  abbrev s : ℤ
  s = l.step

  abbrev d : ℤ
  d = l.extent

  abbrev p : Point
  p = box_corner l i j k

  -- its forms, before the corners are measured from the lattice's first box
  abbrev forms_by : (n e : Point) → Edge
  forms_by n e = record {
    uv = edge_form n.z e.x e.y (v.x -ℤ o.x) (v.y -ℤ o.y) s d;
    vw = edge_form n.x e.y e.z (v.y -ℤ o.y) (v.z -ℤ o.z) s d;
    wu = edge_form n.y e.z e.x (v.z -ℤ o.z) (v.x -ℤ o.x) s d;
    inside = inside_from n.z e.x e.y d;
  }

  abbrev edge : Edge
  edge = forms_by n e

  forms-moved : edge ≡ edge_between (normal (measured_from o t)) (minus v o) (minus w o) s d
  forms-moved = λ q. forms_by (normal-moved o t q) (moved w v o q)

  -- the rule's values of the edge, in three planes
  abbrev xy : ℤ
  xy = edge_in n.z e.x e.y v.x v.y p.x p.y d

  abbrev yz : ℤ
  yz = edge_in n.x e.y e.z v.y v.z p.y p.z d

  abbrev zx : ℤ
  zx = edge_in n.y e.z e.x v.z v.x p.z p.x d

  xy-is : xy ≡ uv_of edge (pos i) (pos j)
  xy-is = edge-value n.z e.x e.y v.x v.y o.x o.y s positive (pos i) (pos j)

  yz-is : le_z (pos 0) yz ≡ passes edge.vw.b (edge.vw.a *ℤ pos j +ℤ edge.vw.c) k
  yz-is =
      let f = edge.vw in
      ap (le_z (pos 0))
      (edge-value n.x e.y e.z v.y v.z o.y o.z s positive (pos j) (pos k)
      ∙ ring (f.a ∷ f.b ∷ f.c ∷ pos j ∷ pos k ∷ []) (var 0 ⊗ var 3 ⊕ var 1 ⊗ var 4 ⊕ var 2) (var 1 ⊗ var 4 ⊕ (var 0 ⊗ var 3 ⊕ var 2)) tt)

  zx-is : le_z (pos 0) zx ≡ passes edge.wu.a (edge.wu.b *ℤ pos i +ℤ edge.wu.c) k
  zx-is =
      let f = edge.wu in
      ap (le_z (pos 0))
      (edge-value n.y e.z e.x v.z v.x o.z o.x s positive (pos k) (pos i)
      ∙ ring (f.a ∷ f.b ∷ f.c ∷ pos i ∷ pos k ∷ []) (var 0 ⊗ var 4 ⊕ var 1 ⊗ var 3 ⊕ var 2) (var 0 ⊗ var 4 ⊕ (var 1 ⊗ var 3 ⊕ var 2)) tt)

  -- where the square is inside of the edge, the plane's box needs no other test of it; no square is, where the normal is 0 on the third axis
  spared : xy <ℤ pos inside_max → Spares (plane_holds t p (cube d)) (le_z edge.inside xy) (le_z (pos 0) yz) (le_z (pos 0) zx)
  spared small plane inside = go (le_z (pos (nat_abs n.z)) (pos 0)) refl inside
    where
      never : {x : ℤ} → x <ℤ pos inside_max → le_z (pos inside_max) x ≡ true → ⊥
      never h k = omega zarith

      steep : le_z (pos (nat_abs n.z)) (pos 0) ≡ false → n.z ≡ pos 0 → ⊥
      steep h k = let z : nat_abs n.z ≡ 0 = ap nat_abs k in omega zarith

      go : (b : Bool) → le_z (pos (nat_abs n.z)) (pos 0) ≡ b → le_z (cond b (pos inside_max) (d *ℤ (pos (nat_abs e.x) +ℤ pos (nat_abs e.y)))) xy ≡ true
          → (le_z (pos 0) yz ≡ true) × (le_z (pos 0) zx ≡ true)
      go true f h = absurd (never small h)
      go false f h =
          let square = le-true _ xy h in (
            true-le (pos 0) yz (yz-holds t e v p d positive along through (steep f) plane square),
            true-le (pos 0) zx (zx-holds t e v p d positive along through (steep f) plane square),
          )

  -- the edge along the column
  along-column : (le_z edge.inside xy || (le_z (pos 0) yz && le_z (pos 0) zx)) ≡ edge_passes edge (pos i) (pos j) (uv_of edge (pos i) (pos j)) k
  along-column = λ q. le_z edge.inside (xy-is q) || (yz-is q && zx-is q)

-- ---- the law
module _ (t : Triangle) (l : Lattice) (positive : pos 0 ≤ℤ l.extent) (i j k : ℕ) where
  abbrev t' : Triangle
  t' = measured_from l.first t

  abbrev edge_of : (v w : Point) → Edge
  edge_of v w = edge_between (normal t') v w l.step l.extent

  abbrev Small : Edge → Type 0
  Small e = uv_of e (pos i) (pos j) <ℤ pos inside_max

  pub column-law : Small (edge_of t'.v0 t'.v1) → Small (edge_of t'.v1 t'.v2) → Small (edge_of t'.v2 t'.v0)
      → forms_hold t (box_corner l i j k) (cube l.extent)
      ≡ column_test (plane_form (normal t') t'.v0 l.step l.extent) (edge_of t'.v0 t'.v1) (edge_of t'.v1 t'.v2) (edge_of t'.v2 t'.v0) (pos i) (pos j) k
  unfolding forms_hold column_test
  column-law s0 s1 s2 =
      all plane (le_z (pos 0) x0 && le_z (pos 0) x1 && le_z (pos 0) x2)
      (spared t l positive i j k t.v0 t.v1 (along0 t) refl (small t.v0 t.v1 (along0 t) refl s0))
      (spared t l positive i j k t.v1 t.v2 (along1 t) (through1 t) (small t.v1 t.v2 (along1 t) (through1 t) s1))
      (spared t l positive i j k t.v2 t.v0 (along2 t) (through2 t) (small t.v2 t.v0 (along2 t) (through2 t) s2))
      ∙ (λ q.
      (le_z (pos 0) (xy-is t l positive i j k t.v0 t.v1 (along0 t) refl q) && le_z (pos 0) (xy-is t l positive i j k t.v1 t.v2 (along1 t) (through1 t) q)
      && le_z (pos 0) (xy-is t l positive i j k t.v2 t.v0 (along2 t) (through2 t) q))
      && (plane-slab t l positive i j k q && along-column t l positive i j k t.v0 t.v1 (along0 t) refl q
      && along-column t l positive i j k t.v1 t.v2 (along1 t) (through1 t) q && along-column t l positive i j k t.v2 t.v0 (along2 t) (through2 t) q))
      ∙ (λ q.
      let e0 = forms-moved t l positive i j k t.v0 t.v1 (along0 t) refl q in
      let e1 = forms-moved t l positive i j k t.v1 t.v2 (along1 t) (through1 t) q in
      let e2 = forms-moved t l positive i j k t.v2 t.v0 (along2 t) (through2 t) q in
      let x = uv_of e0 (pos i) (pos j) in
      let y = uv_of e1 (pos i) (pos j) in
      let z = uv_of e2 (pos i) (pos j) in
      (le_z (pos 0) x && le_z (pos 0) y && le_z (pos 0) z)
      && (plane_passes (plane_form (normal-moved l.first t q) t'.v0 l.step l.extent) (pos i) (pos j) k && edge_passes e0 (pos i) (pos j) x k
      && edge_passes e1 (pos i) (pos j) y k && edge_passes e2 (pos i) (pos j) z k))
    where
      plane : Bool
      plane = plane_holds t (box_corner l i j k) (cube l.extent)

      x0 : ℤ
      x0 = xy t l positive i j k t.v0 t.v1 (along0 t) refl

      x1 : ℤ
      x1 = xy t l positive i j k t.v1 t.v2 (along1 t) (through1 t)

      x2 : ℤ
      x2 = xy t l positive i j k t.v2 t.v0 (along2 t) (through2 t)

      small : (v w : Point) (a : dot (normal t) (minus w v) ≡ pos 0) (b : dot (normal t) v ≡ dot (normal t) t.v0)
          → Small (edge_of (minus v l.first) (minus w l.first)) → xy t l positive i j k v w a b <ℤ pos inside_max
      small v w a b h =
          subst (λ z. z <ℤ pos inside_max)
          (sym (xy-is t l positive i j k v w a b ∙ ap (λ (e : Edge). uv_of e (pos i) (pos j)) (forms-moved t l positive i j k v w a b))) h
