-- `triangles::fill_columns`: whichever axis is taken, the cells are the same.
use Rattle.std.proofs.Common.{◌≡◌, ℕ, List, ℤ, to_z, of_z, w64, ap, ◌∙◌, subst}
use mathlib.Core.Path.{subst₂}
use lib.Dec.{lit<}
use mir.Facts.{to_z-of_z}
use Rattle.integers.proofs.Bounds.{within-fits}
use Rattle.geometry.specs.Bounds.{normal_max, PointWithin, BoundedTriangle}
use Rattle.geometry.specs.declared.Triangle.{Triangle}
use Rattle.grid.specs.declared.BoxRange.{BoxRange}
use Rattle.grid.specs.declared.Grid.{Grid}
use Rattle.grid.specs.declared.Lattice.{Lattice}
use Rattle.ranges.specs.Range.{PicksBox}
use Rattle.forms.proofs.Sizes.{normal-within, negates}
use Rattle.placed.specs.declared.Placed.{Placed}
use Rattle.placed.specs.Placed.{placed_in, turn_placed}
use Rattle.triangles.specs.Add.{AddsTriangle, FillableBox}
use Rattle.triangles.specs.View.{PlacedReady, PlacedAdds}
use Rattle.triangles.proofs.Ways.{placed-ready, placed-adds, ready_turned, adds-turned}
use Rattle.triangles.proofs.fill_columns.Goals as goal

abbrev m : ℤ → ℤ
m z = to_z w64 (of_z w64 z)

module _ {g : Grid} {l : Lattice} {b : BoxRange} {t : Triangle} {bytes : ℕ} (h : FillableBox g l bytes b × BoundedTriangle t × PicksBox t l g.nx g.ny g.nz b) where
  abbrev whole : Placed
  whole = placed_in g l b t

  ready : PlacedReady whole l.step l.extent bytes
  ready = placed-ready g l h.0.grid h.2 h.0 h.1

  normal-in : {r : Placed} → r ≡ whole → PointWithin normal_max r.n
  normal-in e = rw (e, ready.normal-is) (normal-within ready.within)

  -- the lattice's numbers, as the machine reads them back
  step-is : m l.step ≡ l.step
  step-is = to_z-of_z {w = w64} (within-fits (lit< tt) h.0.grid.boxes.step)

  extent-is : m l.extent ≡ l.extent
  extent-is = to_z-of_z {w = w64} (within-fits (lit< tt) h.0.grid.boxes.extent)

  -- what a call asks, of a placed triangle that is q, and what it adds
  asked : {r : Placed} (q : Placed) → r ≡ q → PlacedReady q l.step l.extent bytes → PlacedReady r (m l.step) (m l.extent) bytes
  asked q e k = rw (e, step-is, extent-is) k

  given : {r : Placed} (q : Placed) {old new : List ℕ} → r ≡ q → PlacedAdds r (m l.step) (m l.extent) old new → PlacedAdds q l.step l.extent old new
  given {r} q {old} {new} e k =
      subst (λ r. PlacedAdds r l.step l.extent old new) e (subst₂ (λ (x y : ℤ). PlacedAdds r x y old new) step-is extent-is k)

  added : {old new : List ℕ} → PlacedAdds whole l.step l.extent old new → AddsTriangle g l t old new
  added = placed-adds g l h.0.grid h.2

pub abs-x-requires : goal.abs-x-requires
abs-x-requires c = negates (normal-in c.requires c.place-p.ensures).x

pub abs-y-requires : goal.abs-y-requires
abs-y-requires c = negates (normal-in c.requires c.place-p.ensures).y

pub abs-z-requires : goal.abs-z-requires
abs-z-requires c = negates (normal-in c.requires c.place-p.ensures).z

pub fill_placed-requires : goal.fill_placed-requires
fill_placed-requires c =
    let h = c.requires in
    asked h (turn_placed (whole h)) (c.turned.ensures ∙ ap turn_placed c.place-p.ensures) (ready_turned (ready h))

pub fill_placed-requires-then-z-y : goal.fill_placed-requires-then-z-y
fill_placed-requires-then-z-y c =
    let h = c.requires in
    let twice = c.turned-then-z-y-2.ensures ∙ ap turn_placed (c.turned-then-z-y.ensures ∙ ap turn_placed c.place-p.ensures) in
    asked h (turn_placed (turn_placed (whole h))) twice (ready_turned (ready_turned (ready h)))

pub fill_placed-requires-else-x-y : goal.fill_placed-requires-else-x-y
fill_placed-requires-else-x-y c = let h = c.requires in asked h (whole h) c.place-p.ensures (ready h)

pub returns-then-z-x : goal.returns-then-z-x
returns-then-z-x c =
    let h = c.requires in
    let w = whole h in
    added h (adds-turned w (given h (turn_placed w) (c.turned.ensures ∙ ap turn_placed c.place-p.ensures) c.fill_placed.ensures))

pub returns-then-z-y : goal.returns-then-z-y
returns-then-z-y c =
    let h = c.requires in
    let w = whole h in
    let twice = c.turned-then-z-y-2.ensures ∙ ap turn_placed (c.turned-then-z-y.ensures ∙ ap turn_placed c.place-p.ensures) in
    added h (adds-turned w (adds-turned (turn_placed w) (given h (turn_placed (turn_placed w)) twice c.fill_placed-then-z-y.ensures)))

pub returns-else-x-y : goal.returns-else-x-y
returns-else-x-y c = let h = c.requires in added h (given h (whole h) c.place-p.ensures c.fill_placed-else-x-y.ensures)
