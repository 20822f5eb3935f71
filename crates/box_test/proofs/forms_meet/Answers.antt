-- `box_test::forms_meet`: the plane, then the edges in three planes, up to the first that rules out the box.
use Rattle.std.proofs.Common.{◌≡◌, Bool, ◌&&◌, List, [], ◌∷◌, sym, ◌∙◌, subst, ℕ, ℤ, to_z, of_z, w64}
use Rattle.integers.specs.Within.{Within, Withins}
use Rattle.integers.proofs.Expr.{Expr, var, nth}
use Rattle.integers.proofs.Machine.{machs, run, bounded, learnt}
use Rattle.geometry.specs.Bounds.{normal_max, offset_max, extent_max, each, PointWithin, TriangleWithin}
use Rattle.geometry.specs.declared.Point.{Point}
use Rattle.geometry.specs.declared.Triangle.{Triangle}
use Rattle.overlap.specs.Rule.{normal}
use Rattle.forms.proofs.Sizes.{normal-within}
use Rattle.box_test.specs.Inner.{plane_meets, edges_meet, forms_meet, edges_bounds}
use Rattle.box_test.proofs.Chain.{and_then, and_else}
use Rattle.box_test.proofs.forms_meet.Goals as goal
use Rattle.box_test.proofs.forms_meet.Goals.{Joined-plane_meets, Joined-edges_meet, then-plane_meets, else-plane_meets, then-edges_meet, else-edges_meet}

-- the arguments of each call for the edges
abbrev xy : List Expr
xy = var 2 ∷ var 3 ∷ var 4 ∷ var 6 ∷ var 7 ∷ var 9 ∷ var 10 ∷ var 12 ∷ []

abbrev yz : List Expr
yz = var 0 ∷ var 4 ∷ var 5 ∷ var 7 ∷ var 8 ∷ var 10 ∷ var 11 ∷ var 12 ∷ []

abbrev zx : List Expr
zx = var 1 ∷ var 5 ∷ var 3 ∷ var 8 ∷ var 6 ∷ var 11 ∷ var 9 ∷ var 12 ∷ []

abbrev Meet : Bool → List ℤ → Type 0
Meet r l = r ≡ edges_meet (nth l 0) (nth l 1) (nth l 2) (nth l 3) (nth l 4) (nth l 5) (nth l 6) (nth l 7)

abbrev bs : List ℕ
bs = each normal_max 3 (each offset_max 9 (extent_max ∷ []))

-- a triangle t, a normal n that is its own, and the extent
module _ {t : Triangle} {n : Point} {extent : ℤ} (h : TriangleWithin offset_max t) (l : Within extent_max extent) (e : n ≡ normal t) where
  abbrev ρ : List ℤ
  ρ = n.x ∷ n.y ∷ n.z ∷ t.v0.x ∷ t.v0.y ∷ t.v0.z ∷ t.v1.x ∷ t.v1.y ∷ t.v1.z ∷ t.v2.x ∷ t.v2.y ∷ t.v2.z ∷ extent ∷ []

  normal-in : PointWithin normal_max n
  normal-in = subst (PointWithin normal_max) (sym e) (normal-within h)

  ins : Withins bs ρ
  ins =
      let m = normal-in in
      (m.x, (m.y, (m.z, (h.v0.x, (h.v0.y, (h.v0.z, (h.v1.x, (h.v1.y, (h.v1.z, (h.v2.x, (h.v2.y, (h.v2.z, (l, tt)))))))))))))

  -- ---- the four tests, by a normal
  abbrev plane : Point → Bool
  plane n = plane_meets n t.v0 extent

  abbrev on_xy : Point → Bool
  on_xy n = edges_meet n.z t.v0.x t.v0.y t.v1.x t.v1.y t.v2.x t.v2.y extent

  abbrev on_yz : Point → Bool
  on_yz n = edges_meet n.x t.v0.y t.v0.z t.v1.y t.v1.z t.v2.y t.v2.z extent

  abbrev on_zx : Point → Bool
  on_zx n = edges_meet n.y t.v0.z t.v0.x t.v1.z t.v1.x t.v2.z t.v2.x extent

  abbrev all : Point → Bool
  all n = plane n && on_xy n && on_yz n && on_zx n

  -- the whole, of the triangle's normal
  whole : {r : Bool} → r ≡ all n → r ≡ forms_meet t extent
  unfolding forms_meet
  whole {r} f = subst (λ (n : Point). r ≡ all n) e f

  -- what each call said
  plane-is : (r : Bool) → r ≡ plane_meets n t.v0 (to_z w64 (of_z w64 extent)) → r ≡ plane n
  plane-is r f = f ∙ (λ i. plane_meets n t.v0 (run ρ (var 12) bs tt ins i))

  xy-is : (r : Bool) → Meet r (machs ρ xy) → r ≡ on_xy n
  xy-is r f = learnt ρ (Meet r) xy bs tt ins f

  yz-is : (r : Bool) → Meet r (machs ρ yz) → r ≡ on_yz n
  yz-is r f = learnt ρ (Meet r) yz bs tt ins f

  zx-is : (r : Bool) → Meet r (machs ρ zx) → r ≡ on_zx n
  zx-is r f = learnt ρ (Meet r) zx bs tt ins f

pub plane_meets-requires : goal.plane_meets-requires
plane_meets-requires c =
    let (h, l) = c.requires in
    let e = c.normal-n.ensures in
    (normal-in h l e, h.v0, (bounded (ρ h l e) (var 12 ∷ []) bs (extent_max ∷ []) tt (ins h l e)).0)

pub edges_meet-requires : goal.edges_meet-requires
edges_meet-requires c = let (h, l) = c.requires in let e = c.normal-n.ensures in bounded (ρ h l e) xy bs edges_bounds tt (ins h l e)

pub edges_meet-requires-then-edges_meet : goal.edges_meet-requires-then-edges_meet
edges_meet-requires-then-edges_meet c = let (h, l) = c.requires in let e = c.normal-n.ensures in bounded (ρ h l e) yz bs edges_bounds tt (ins h l e)

pub edges_meet-requires-then-edges_meet-2 : goal.edges_meet-requires-then-edges_meet-2
edges_meet-requires-then-edges_meet-2 c = let (h, l) = c.requires in let e = c.normal-n.ensures in bounded (ρ h l e) zx bs edges_bounds tt (ins h l e)

-- of the plane and xy; and of yz too
two : (c : Joined-plane_meets) → let (h, l) = c.requires in let e = c.normal-n.ensures in let n = c.normal-n.result in c.if-plane_meets.value ≡ (plane h l e n && on_xy h l e n)
two c =
    let (h, l) = c.requires in
    let e = c.normal-n.ensures in
    let p = plane-is h l e c.plane_meets.result c.plane_meets.ensures in
    elim c.if-plane_meets.branch [
      | then-plane_meets w ↦ w.value-is ∙ and_then p w.if-plane_meets.true (xy-is h l e w.edges_meet.result w.edges_meet.ensures)
      | else-plane_meets w ↦ w.value-is ∙ and_else (on_xy h l e c.normal-n.result) p w.if-plane_meets.false
    ]

three : (c : Joined-edges_meet) → let (h, l) = c.requires in let e = c.normal-n.ensures in let n = c.normal-n.result in c.if-edges_meet.value ≡ (plane h l e n && on_xy h l e n && on_yz h l e n)
three c =
    let (h, l) = c.requires in
    let e = c.normal-n.ensures in
    elim c.if-edges_meet.branch [
      | then-edges_meet w ↦ let r = w.edges_meet-then-edges_meet in w.value-is ∙ and_then (two c.before) w.if-edges_meet.true (yz-is h l e r.result r.ensures)
      | else-edges_meet w ↦ w.value-is ∙ and_else (on_yz h l e c.normal-n.result) (two c.before) w.if-edges_meet.false
    ]

pub returns-then-edges_meet-2 : goal.returns-then-edges_meet-2
returns-then-edges_meet-2 c =
    let (h, l) = c.requires in
    let e = c.normal-n.ensures in
    let r = c.edges_meet-then-edges_meet-2 in
    whole h l e (and_then (three c.before.before.before.before.before.before.before.before.before) c.if-edges_meet-2.true (zx-is h l e r.result r.ensures))

pub returns-else-edges_meet-2 : goal.returns-else-edges_meet-2
returns-else-edges_meet-2 c =
    let (h, l) = c.requires in
    let e = c.normal-n.ensures in
    whole h l e (and_else (on_zx h l e c.normal-n.result) (three c.before) c.if-edges_meet-2.false)
