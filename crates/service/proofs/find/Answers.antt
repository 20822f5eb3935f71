-- `service::find`: a triangle that overlaps the box reaches it, and none before it does.
use mathlib.Core.Bool.{false}
use mathlib.Core.List.{List}
use mathlib.Core.Path.{◌≡◌, sym, ap, ◌∙◌, subst}
use Prim.Native.Nat.{ℕ, ◌^◌, ◌<◌}
use native.Mathlib.Omega.{arith}
use lib.IntN.{ℤ, pos}
use lib.Signed.{◌≤ℤ◌}
use mir.Syntax.{w64}
use mir.Val.{SFits, to_z, of_z}
use mir.Facts.{to_z-of_z}
use Rattle.geometry.specs.declared.Triangle.{Triangle}
use Rattle.geometry.specs.declared.Point.{Point}
use Rattle.geometry.specs.Geometry.{cube}
use Rattle.geometry.specs.Bounds.{TriangleWithin, BoundedTriangle}
use Rattle.reach.specs.Reaches.{ReachesBox}
use Rattle.weights.specs.Weights.{Weighs}
use Rattle.layout.specs.declared.Header.{Header}
use Rattle.layout.specs.declared.Record.{Record}
use Rattle.frame.specs.File.{record_of}
use Rattle.frame.proofs.Triangles.{triangle-bounded, triangle-within}
use Rattle.service.specs.Bar.{NoneReaches}
use Rattle.service.specs.Inner.{overlaps_record}
use Rattle.service.proofs.Lowest.{lowest-clear, lowest-at, overlap-reaches, apart-not}
use Rattle.service.proofs.find.Goals as goal

-- none of the first n records overlaps the box
abbrev None : List ℕ → (p d : Point) → ℕ → Type 0
None s p d n = (i : ℕ) → i < n → overlaps_record s p d i ≡ false

none-reaches : (s : List ℕ) (p : Point) {d : ℤ} (n : ℕ) → pos 0 ≤ℤ d → None s p (cube d) n → NoneReaches s n p (cube d)
none-reaches s p n thick h i l = apart-not thick (h i l)

-- the box's extent is here as the machine reads it back
module _ {e : ℤ} (f : SFits w64 e) where
  extent-is : to_z w64 (of_z w64 e) ≡ e
  extent-is = to_z-of_z f

  thick : pos 0 ≤ℤ e → pos 0 ≤ℤ to_z w64 (of_z w64 e)
  thick h = rw extent-is h

-- the triangle that is found
triangle-is : (file : List ℕ) (i : ℕ) {r : Record} → r ≡ record_of file i → r.triangle ≡ (record_of file i).triangle
triangle-is file i is = ap (λ (x : Record). x.triangle) is

pub weigh-requires : goal.weigh-requires
weigh-requires c =
    let a = c.args in
    let p = c.requires in
    let file = a.frame.now.file.now in
    let i = c.loop-index.index in
    let t = triangle-is file i c.one_record.ensures in (
      subst BoundedTriangle (sym t) (triangle-bounded file i),
      p.0,
      rw (extent-is c.ranges.extent) p.1,
      subst (λ (t : Triangle). ReachesBox t a.p (cube (to_z w64 (of_z w64 a.extent)))) (sym t)
          (overlap-reaches (thick c.ranges.extent p.2) (sym c.overlaps.ensures ∙ c.if-overlaps.true)),
    )

pub returns-then-overlaps : goal.returns-then-overlaps
returns-then-overlaps c =
    let end = ap (λ (h : Header). h.count) c.header-index-end.ensures in
    let known : c.loop-index.index < c.args.frame.now.header.count = omega (arith, c.loop-index-test.true, end) in
    let a = c.args in
    let file = a.frame.now.file.now in
    let i = c.loop-index.index in
    let none = c.loop-index.invariant in
    let t = triangle-is file i c.one_record.ensures in
    let few = c.weigh.ensures 13 (subst (TriangleWithin (2 ^ 13)) (sym t) (triangle-within file i)) in
    rw (← extent-is c.ranges.extent) (
      sym (lowest-at _ i a.frame.now.header.count known (lowest-clear _ i none) (sym c.overlaps.ensures ∙ c.if-overlaps.true)),
      record {
        known = known;
        shows = subst (λ (t : Triangle). Weighs (2 ^ 30) t a.p (cube (to_z w64 (of_z w64 a.extent))) c.weigh.result) t few;
        none-lower = none-reaches file a.p i (thick c.ranges.extent c.requires.2) none;
      },
    )

pub returns : goal.returns
returns c =
    let a = c.args in
    let file = a.frame.now.file.now in
    let end = ap (λ (h : Header). h.count) c.header-index-end.ensures in
    let all : c.loop-index.index ≡ a.frame.now.header.count = omega (arith, c.loop-index-test.false, c.loop-index.auto.index-end, end) in
    let none = subst (None file a.p (cube (to_z w64 (of_z w64 a.extent)))) all c.loop-index.invariant in
    rw (← extent-is c.ranges.extent) (sym (lowest-clear _ _ none), none-reaches file a.p _ (thick c.ranges.extent c.requires.2) none)
