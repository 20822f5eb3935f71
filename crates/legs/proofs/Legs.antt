-- A leg's slabs say what the overlap rule says. A leg from p to q is the triangle p, q, q: its normal is 0, so that the plane's test holds; its middle edge has
-- no length; and in the plane of two axes the values of its two other edges are X and reach − X, where X is the slab's form.
--     leg-rule        the rule for a leg and a box of a lattice, by the box's tests and the slabs
--     leg-by-range    the same, by the ranges of cells whose box test holds
-- Assumes nothing.
use mathlib.Core.Bool.{Bool, true, false, cond, ◌&&◌, and-true, and_comm}
use mathlib.Core.List.{List, [], ◌∷◌}
use mathlib.Core.Path.{◌≡◌, refl, sym, ap, ap₂, ◌∙◌}
use Prim.Native.Nat.{ℕ, ◌<◌}
use lib.IntN.{ℤ, pos, neg_ℤ, nat_abs, ◌+ℤ◌, ◌-ℤ◌, ◌*ℤ◌, *ℤ-zero, zero-*ℤ}
use lib.Signed.{◌≤ℤ◌, le_z, lt_z}
use Rattle.std.specs.Int.{int_min, int_max}
use Rattle.integers.proofs.Omega.{zarith, +!, -!, neg!, abs! }
use Rattle.integers.proofs.Laws.{NN}
use Rattle.integers.proofs.Expr.{Expr, var, num, neg, ◌⊕◌, ◌⊖◌, ◌⊗◌}
use Rattle.integers.proofs.Ring.{ring, ring2}
use Rattle.integers.proofs.Certificates.{Zero, ze, ◌⊹◌, by-eq}
use Rattle.integers.proofs.MinMax.{max!, max-left, max-right}
use Rattle.integers.proofs.Scales.{max-scale}
use Rattle.geometry.specs.declared.Point.{Point}
use Rattle.geometry.specs.declared.Triangle.{Triangle}
use Rattle.geometry.specs.Geometry.{point, minus, dot, leg, x_of, y_of, z_of, cube}
use Rattle.grid.specs.declared.Lattice.{Lattice}
use Rattle.grid.specs.Grid.{box_corner}
use Rattle.overlap.specs.Rule.{normal, box_holds, plane_holds, edges_hold, overlaps_box}
use Rattle.overlap.proofs.Corners.{least8-sum, greatest8-sum}
use Rattle.grid.specs.declared.BoxRange.{BoxRange}
use Rattle.grid.specs.Range.{in_range}
use Rattle.ranges.specs.Range.{PicksBox}
use Rattle.integers.proofs.Truth.{same_truth}
use Rattle.legs.specs.Form.{Form}
use Rattle.legs.specs.Slab.{rising_slab, slab_of, slabs_of, form_of, slab_holds, row_holds, cell_holds}

-- ---- an edge's value, with m = (ma, mb)
abbrev value : (ma mb va vb pa pb d : ℤ) → ℤ
value ma mb va vb pa pb d = ma *ℤ pa +ℤ mb *ℤ pb -ℤ (ma *ℤ va +ℤ mb *ℤ vb) +ℤ int_max (pos 0) (d *ℤ ma) +ℤ int_max (pos 0) (d *ℤ mb)

-- of an edge with no length
no_value : (va vb pa pb d : ℤ) {ma mb : ℤ} → ma ≡ pos 0 → mb ≡ pos 0 → value ma mb va vb pa pb d ≡ pos 0
no_value va vb pa pb d p q =
    rw (p, q, *ℤ-zero d) (ring (va ∷ vb ∷ pa ∷ pb ∷ []) (num 0 ⊗ var 2 ⊕ num 0 ⊗ var 3 ⊖ (num 0 ⊗ var 0 ⊕ num 0 ⊗ var 1) ⊕ num 0 ⊕ num 0) (num 0) tt)

-- of the two others: the leg goes by (ea, eb) from (va, vb), and an edge starts there or at any other point of the leg's line
module _ (ea eb va vb oa ob step d i j : ℤ) (down : eb ≤ℤ pos 0) (h : NN d) where
  abbrev s : Form
  s = rising_slab ea eb (va -ℤ oa) (vb -ℤ ob) step d

  abbrev at : (ma mb wa wb : ℤ) → ℤ
  at ma mb wa wb = value ma mb wa wb (oa +ℤ i *ℤ step) (ob +ℤ j *ℤ step) d

  abbrev On : (wa wb : ℤ) → Type 0
  On wa wb = ea *ℤ wb -ℤ eb *ℤ wa ≡ ea *ℤ vb -ℤ eb *ℤ va

  -- the numbers, with an edge's start, max(0, ea), max(0, −ea) and |ea|; and what is said of them, as expressions
  abbrev ρ : (wa wb : ℤ) → List ℤ
  ρ wa wb =
      ea ∷ eb ∷ va ∷ vb ∷ oa ∷ ob ∷ step ∷ d ∷ i ∷ j ∷ wa ∷ wb ∷ int_max (pos 0) ea ∷ int_max (pos 0) (neg_ℤ ea) ∷ pos (nat_abs ea) ∷ []

  abbrev form : Expr
  form =
      neg (var 6 ⊗ var 1) ⊗ var 8 ⊕ var 6 ⊗ var 0 ⊗ var 9
      ⊕ (var 7 ⊗ (var 12 ⊖ var 1) ⊖ (var 0 ⊗ (var 3 ⊖ var 5) ⊖ var 1 ⊗ (var 2 ⊖ var 4)))

  abbrev valued : (ma mb up-a up-b : Expr) → Expr
  valued ma mb up-a up-b =
      ma ⊗ (var 4 ⊕ var 8 ⊗ var 6) ⊕ mb ⊗ (var 5 ⊕ var 9 ⊗ var 6) ⊖ (ma ⊗ var 10 ⊕ mb ⊗ var 11) ⊕ var 7 ⊗ up-a ⊕ var 7 ⊗ up-b

  -- an equation that says `On`, times a number
  abbrev line : {wa wb : ℤ} → Expr → On wa wb → Zero (ρ wa wb)
  line m on = ze m (var 0 ⊗ var 11 ⊖ var 1 ⊗ var 10) (var 0 ⊗ var 3 ⊖ var 1 ⊗ var 2) on

  ahead : (wa wb : ℤ) → On wa wb → at (neg_ℤ eb) ea wa wb ≡ form_of s i j
  ahead wa wb on =
      rw (max-scale (neg_ℤ eb) h, max-scale ea h, max-right (pos 0) (neg_ℤ eb) (omega (zarith, neg! eb)))
      (by-eq (ρ wa wb) (valued (neg (var 1)) (var 0) (neg (var 1)) (var 12)) form (line (neg (num 1)) on) tt)

  back : (wa wb : ℤ) → On wa wb → at (neg_ℤ (neg_ℤ eb)) (neg_ℤ ea) wa wb ≡ s.reach -ℤ form_of s i j
  back wa wb on =
      rw (max-scale (neg_ℤ (neg_ℤ eb)) h, max-scale (neg_ℤ ea) h, max-left (pos 0) (neg_ℤ (neg_ℤ eb)) (omega (zarith, neg! eb, neg! (neg_ℤ eb))))
      (by-eq (ρ wa wb) (valued (neg (neg (var 1))) (neg (var 0)) (num 0) (var 13)) (var 7 ⊗ (var 14 ⊖ var 1) ⊖ form)
      (line (num 1) on ⊹ ze (var 7) (var 12 ⊕ var 13) (var 14) both) tt)
    where
      both : int_max (pos 0) ea +ℤ int_max (pos 0) (neg_ℤ ea) ≡ pos (nat_abs ea)
      both = omega (zarith, +! (int_max (pos 0) ea) (int_max (pos 0) (neg_ℤ ea)), max! (pos 0) ea, max! (pos 0) (neg_ℤ ea), neg! ea, abs! ea)

  two_edges : (wa wb ua ub : ℤ) → On wa wb → On ua ub
      → (le_z (pos 0) (at (neg_ℤ eb) ea wa wb) && le_z (pos 0) (at (neg_ℤ (neg_ℤ eb)) (neg_ℤ ea) ua ub)) ≡ slab_holds s i j
  two_edges wa wb ua ub p q =
      ap₂ ◌&&◌ (ap (le_z (pos 0)) (ahead wa wb p)) (ap (le_z (pos 0)) (back ua ub q) ∙ below-reach (form_of s i j) s.reach)
    where
      below-reach : (x r : ℤ) → le_z (pos 0) (r -ℤ x) ≡ le_z x r
      below-reach x r = same_truth (le_z (pos 0) (r -ℤ x)) (le_z x r) (λ e. omega (zarith, -! r x)) (λ e. omega (zarith, -! r x))

-- ---- in the plane of two axes, the leg from (aa, ab) to (ba, bb)
module _ (aa ab ba bb oa ob step d i j : ℤ) (h : NN d) where
  abbrev ea : ℤ
  ea = ba -ℤ aa

  abbrev eb : ℤ
  eb = bb -ℤ ab

  -- the test of an edge
  abbrev passes : (ma mb va vb : ℤ) → Bool
  passes ma mb va vb = le_z (pos 0) (value ma mb va vb (oa +ℤ i *ℤ step) (ob +ℤ j *ℤ step) d)

  abbrev corners : List ℤ
  corners = aa ∷ ab ∷ ba ∷ bb ∷ []

  middle : passes (neg_ℤ (bb -ℤ bb)) (ba -ℤ ba) ba bb ≡ true
  middle =
      ap (le_z (pos 0)) (no_value ba bb (oa +ℤ i *ℤ step) (ob +ℤ j *ℤ step) d (ring corners (neg (var 3 ⊖ var 3)) (num 0) tt) (ring corners (var 2 ⊖ var 2) (num 0) tt))

  outer : (passes (neg_ℤ eb) ea aa ab && passes (neg_ℤ (ab -ℤ bb)) (aa -ℤ ba) ba bb) ≡ slab_holds (slab_of ea eb (aa -ℤ oa) (ab -ℤ ob) step d) i j
  unfolding slab_of
  outer = go (lt_z (pos 0) eb) refl
    where
      twice : (z : ℤ) → z ≡ neg_ℤ (neg_ℤ z)
      twice z = omega (zarith, neg! z, neg! (neg_ℤ z))

      reversed : passes (neg_ℤ (ab -ℤ bb)) (aa -ℤ ba) ba bb ≡ passes (neg_ℤ (neg_ℤ eb)) (neg_ℤ ea) ba bb
      reversed =
          ap₂ (λ (x y : ℤ). passes (neg_ℤ x) y ba bb)
          (ring corners (var 1 ⊖ var 3) (neg (var 3 ⊖ var 1)) tt) (ring corners (var 0 ⊖ var 2) (neg (var 2 ⊖ var 0)) tt)

      go : (t : Bool) → lt_z (pos 0) eb ≡ t
          → (passes (neg_ℤ eb) ea aa ab && passes (neg_ℤ (ab -ℤ bb)) (aa -ℤ ba) ba bb)
          ≡ slab_holds (cond t (rising_slab (neg_ℤ ea) (neg_ℤ eb) (aa -ℤ oa) (ab -ℤ ob) step d) (rising_slab ea eb (aa -ℤ oa) (ab -ℤ ob) step d)) i j
      go true e =
          and_comm (passes (neg_ℤ eb) ea aa ab) _
          ∙ ap₂ ◌&&◌ reversed (ap₂ (λ (x y : ℤ). passes (neg_ℤ x) y aa ab) (twice eb) (twice ea))
          ∙ two_edges (neg_ℤ ea) (neg_ℤ eb) aa ab oa ob step d i j (omega (zarith, neg! eb)) h ba bb aa ab
          (ring corners (neg (var 2 ⊖ var 0) ⊗ var 3 ⊖ neg (var 3 ⊖ var 1) ⊗ var 2) (neg (var 2 ⊖ var 0) ⊗ var 1 ⊖ neg (var 3 ⊖ var 1) ⊗ var 0) tt) refl
      go false e =
          ap (λ (b : Bool). passes (neg_ℤ eb) ea aa ab && b) reversed
          ∙ two_edges ea eb aa ab oa ob step d i j (omega zarith) h aa ab ba bb refl
          (ring corners ((var 2 ⊖ var 0) ⊗ var 3 ⊖ (var 3 ⊖ var 1) ⊗ var 2) ((var 2 ⊖ var 0) ⊗ var 1 ⊖ (var 3 ⊖ var 1) ⊗ var 0) tt)

  in-plane : (passes (neg_ℤ eb) ea aa ab && passes (neg_ℤ (bb -ℤ bb)) (ba -ℤ ba) ba bb && passes (neg_ℤ (ab -ℤ bb)) (aa -ℤ ba) ba bb)
      ≡ slab_holds (slab_of ea eb (aa -ℤ oa) (ab -ℤ ob) step d) i j
  in-plane = rw (middle, and-true) outer

-- ---- the plane, whose normal is 0
no-normal : (x y : ℤ) → x *ℤ y -ℤ y *ℤ x ≡ pos 0
no-normal = ring2 (λ x y. x ⊗ y ⊖ y ⊗ x) (λ x y. num 0) tt

no-sum : (op : ℤ → ℤ → ℤ) → op (pos 0) (pos 0) ≡ pos 0 → (n d w : Point) → n ≡ point (pos 0) (pos 0) (pos 0)
    → dot n w +ℤ op (pos 0) (d.x *ℤ n.x) +ℤ op (pos 0) (d.y *ℤ n.y) +ℤ op (pos 0) (d.z *ℤ n.z) ≡ pos 0
no-sum op h n d w e =
    ap (λ (m : Point). dot m w +ℤ op (pos 0) (d.x *ℤ m.x) +ℤ op (pos 0) (d.y *ℤ m.y) +ℤ op (pos 0) (d.z *ℤ m.z)) e
    ∙ rw (zero-*ℤ w.x, zero-*ℤ w.y, zero-*ℤ w.z, *ℤ-zero d.x, *ℤ-zero d.y, *ℤ-zero d.z, h)

-- ---- the rule
row_first : (b x y z : Bool) → (b && x && y && z) ≡ (b && y && (x && z))
row_first true true y z = refl
row_first true false true z = refl
row_first true false false z = refl
row_first false x y z = refl

module _ (p q : Point) where
  abbrev t : Triangle
  t = leg p q

  flat : normal t ≡ point (pos 0) (pos 0) (pos 0)
  flat = let e = minus q p in λ i. point (no-normal e.y e.z i) (no-normal e.z e.x i) (no-normal e.x e.y i)

  plane-holds : (c d : Point) → plane_holds t c d ≡ true
  plane-holds c d =
      let w = minus c p in
      ap₂ (λ (x y : ℤ). le_z x (pos 0) && le_z (pos 0) y)
      (least8-sum t c d ∙ no-sum int_min refl (normal t) d w flat)
      (greatest8-sum t c d ∙ no-sum int_max refl (normal t) d w flat)

  module _ (l : Lattice) (h : NN l.extent) (i j k : ℕ) where
    abbrev c : Point
    c = box_corner l i j k

    abbrev d : Point
    d = cube l.extent

    abbrev o : Point
    o = l.first

    pub leg-rule : let s = slabs_of l p q in
        overlaps_box (leg p q) (box_corner l i j k) (cube l.extent)
        ≡ (box_holds (leg p q) (box_corner l i j k) (cube l.extent) x_of
        && box_holds (leg p q) (box_corner l i j k) (cube l.extent) y_of
        && box_holds (leg p q) (box_corner l i j k) (cube l.extent) z_of
        && slab_holds s.xy (pos i) (pos j)
        && slab_holds s.yz (pos j) (pos k)
        && slab_holds s.zx (pos k) (pos i))
    unfolding overlaps_box
    leg-rule =
        let boxes = box_holds t c d x_of && box_holds t c d y_of && box_holds t c d z_of in
        ap₂ ◌&&◌
        (ap₂ ◌&&◌
        (ap₂ ◌&&◌ (ap (λ (b : Bool). boxes && b) (plane-holds c d) ∙ and-true boxes)
        (ap (λ (m : Point). edges_hold t c d x_of y_of m.z) flat ∙ in-plane p.x p.y q.x q.y o.x o.y l.step l.extent (pos i) (pos j) h))
        (ap (λ (m : Point). edges_hold t c d y_of z_of m.x) flat ∙ in-plane p.y p.z q.y q.z o.y o.z l.step l.extent (pos j) (pos k) h))
        (ap (λ (m : Point). edges_hold t c d z_of x_of m.y) flat ∙ in-plane p.z p.x q.z q.x o.z o.x l.step l.extent (pos k) (pos i) h)

    -- of a cell of the grid, by the ranges of cells whose box test holds, and the slabs
    pub leg-by-range : {nx ny nz : ℕ} {r : BoxRange} → PicksBox (leg p q) l nx ny nz r → i < nx → j < ny → k < nz
        → let s = slabs_of l p q in
        overlaps_box (leg p q) (box_corner l i j k) (cube l.extent)
        ≡ (in_range r.x i && in_range r.y j && in_range r.z k && row_holds s k j && cell_holds s i j k)
    unfolding cell_holds
    leg-by-range {r = r} picks hi hj hk =
        let s = slabs_of l p q in
        leg-rule
        ∙ ap (λ (b : Bool). b && slab_holds s.xy (pos i) (pos j) && slab_holds s.yz (pos j) (pos k) && slab_holds s.zx (pos k) (pos i))
        (sym (ap₂ ◌&&◌ (ap₂ ◌&&◌ (picks.x.exact i hi) (picks.y.exact j hj)) (picks.z.exact k hk)))
        ∙ row_first (in_range r.x i && in_range r.y j && in_range r.z k) _ _ _
