-- A grid's cells seen with the axes in some turn, and what a placed triangle adds to a map. Definitions only.
use Rattle.std.specs.Prelude.{Bool, List, ◌≡◌, ℕ, ◌*◌, ◌<◌, ◌≤◌, ℤ, pos, ◌≤ℤ◌}
use Rattle.integers.specs.Within.{Within}
use Rattle.geometry.specs.declared.Point.{Point}
use Rattle.geometry.specs.declared.Triangle.{Triangle}
use Rattle.geometry.specs.Bounds.{offset_max, step_max, extent_max, TriangleWithin}
use Rattle.geometry.specs.Geometry.{cube}
use Rattle.geometry.specs.Inner.{measured_from}
use Rattle.grid.specs.declared.Lattice.{Lattice}
use Rattle.grid.specs.declared.BoxRange.{BoxRange}
use Rattle.grid.specs.Grid.{box_corner}
use Rattle.overlap.specs.Rule.{normal, overlaps_box}
use Rattle.ranges.specs.Range.{PicksBox}
use Rattle.columns.specs.declared.Strides.{Strides}
use Rattle.columns.specs.Draw.{u_of, v_of, w_of, cells_of, Numbers}
use Rattle.blocks.specs.Block.{SomeCells}
use Rattle.placed.specs.declared.Placed.{Placed}
use Rattle.triangles.specs.Add.{Adds}

-- The numbering g, the triangle t, the boxes l and the ranges r speak of the same cells, their axes in some turn: of the first `cells` cells, those that are
-- wanted are those whose boxes t overlaps.
pub record View (g : Strides) (t : Triangle) (l : Lattice) (r : BoxRange) (cells : ℕ) (wanted : ℕ → Bool) : Type 0 where
  pub numbers : Numbers g
  pub picks : PicksBox t l g.nu g.nv g.nw r
  pub cells_are : cells_of g ≡ cells
  pub rule : (n : ℕ) → n < cells → overlaps_box t (box_corner l (u_of g n) (v_of g n) (w_of g n)) (cube l.extent) ≡ wanted n

-- What its columns ask: bounded numbers, its normal, a numbering with room in the map, and a box of cells that is not empty.
pub record PlacedReady (p : Placed) (step extent : ℤ) (bytes : ℕ) : Type 0 where
  pub within : TriangleWithin offset_max p.t
  pub normal-is : p.n ≡ normal p.t
  pub step_in : Within step_max step
  pub forward : pos 0 ≤ℤ step
  pub extent-in : Within extent_max extent
  pub thick : pos 0 ≤ℤ extent
  pub numbers : Numbers p.s
  pub room : cells_of p.s ≤ 8 * bytes
  pub x : SomeCells p.s.nu p.b.x
  pub y : SomeCells p.s.nv p.b.y
  pub z : SomeCells p.s.nw p.b.z

-- The boxes of a lattice that begins at o.
abbrev pub lattice_at : (o : Point) (step extent : ℤ) → Lattice
lattice_at o step extent = record { first = o; step = step; extent = extent }

-- The wanted cells are added, of every view of a triangle that has these corners when they are measured from where the lattice begins.
abbrev pub PlacedAdds : Placed → (step extent : ℤ) → (old new : List ℕ) → Type 0
PlacedAdds p step extent old new =
    (t : Triangle) (o : Point) (cells : ℕ) (wanted : ℕ → Bool) → View p.s t (lattice_at o step extent) p.b cells wanted → measured_from o t ≡ p.t
    → Adds cells wanted old new
