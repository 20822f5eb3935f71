-- `first_hit::first_hit`: the cells looked for are those that are filled and touched, and each is entered where its box is.
use mathlib.Core.Bool.{Bool, ◌&&◌}
use mathlib.Core.List.{List}
use mathlib.Core.Path.{◌≡◌, sym, ◌∙◌, ap, subst}
use Prim.Native.Nat.{ℕ, ◌<◌}
use Rattle.integers.proofs.Laws.{<→≤}
use Rattle.geometry.specs.Geometry.{leg, cube}
use Rattle.geometry.specs.declared.Point.{Point}
use Rattle.grid.specs.declared.BoxRange.{BoxRange}
use Rattle.grid.specs.declared.Grid.{Grid}
use Rattle.grid.specs.declared.Lattice.{Lattice}
use Rattle.grid.specs.Cells.{x_of_cell, y_of_cell, z_of_cell}
use Rattle.grid.specs.Grid.{cell_count, lattice_of, corner_of}
use Rattle.grid.specs.Usable.{BoundedGrid}
use Rattle.grid.proofs.Usable.{usable-boxes}
use Rattle.grid.proofs.Numbers.{x_lt, y-lt, z-lt}
use Rattle.map.specs.Map.{is_filled}
use Rattle.ranges.specs.Range.{PicksBox}
use Rattle.legs.specs.declared.Slabs.{Slabs}
use Rattle.legs.specs.Slab.{slabs_of}
use Rattle.legs.proofs.Legs.{leg-by-range}
use Rattle.entry.specs.declared.Entries.{Entries}
use Rattle.entry.specs.Inner.{entries_of, entry_at}
use Rattle.entry.proofs.Boxes.{entry-is}
use Rattle.entry.proofs.Least.{entry-positive}
use Rattle.touch.specs.Inner.{in_block, wanted}
use Rattle.first_hit.specs.FirstHit.{filled_and_touched, entry_of_cell, first_hit}
use Rattle.first_hit.proofs.Nearest.{found_none, nearest-same}
use Rattle.first_hit.proofs.first_hit.Goals as goal

-- what the calls give: the grid's lattice l, the leg's block b, its slabs f and its entries e
module _ (g : Grid) (p q : Point) (h : BoundedGrid g) {l : Lattice} (l-is : l ≡ lattice_of g) where
  slabs-are : {f : Slabs} → f ≡ slabs_of l p q → f ≡ slabs_of (lattice_of g) p q
  slabs-are is = is ∙ ap (λ (l : Lattice). slabs_of l p q) l-is

  entries-are : {e : Entries} → e ≡ entries_of l p q → e ≡ entries_of (lattice_of g) p q
  entries-are is = is ∙ ap (λ (l : Lattice). entries_of l p q) l-is

  module _ {b : BoxRange} (by : PicksBox (leg p q) l g.nx g.ny g.nz b) where
    picks : PicksBox (leg p q) (lattice_of g) g.nx g.ny g.nz b
    picks = subst (λ (l : Lattice). PicksBox (leg p q) l g.nx g.ny g.nz b) l-is by

    -- a cell lies in the leg's box and in its slabs exactly where the overlap rule holds
    same : (map : List ℕ) {f : Slabs} → f ≡ slabs_of l p q → (n : ℕ) → n < cell_count g
        → wanted (is_filled map) g f b n ≡ filled_and_touched (is_filled map) g p q n
    same map is n u =
        let w = h.within in
        let i = x_of_cell g.nx n in
        let j = y_of_cell g.nx g.ny n in
        let k = z_of_cell g.nx g.ny n in
        ap (λ (t : Bool). is_filled map n && t)
        (ap (λ (f : Slabs). in_block f b i j k) (slabs-are is)
        ∙ sym (leg-by-range p q (lattice_of g) (<→≤ h.positive) i j k picks (x_lt g.nx g.ny n w.x.some) (y-lt g.nx g.ny n w.y.some) (z-lt g.nx g.ny g.nz n w.x.some w.y.some u)))

pub of_leg-entries-requires : goal.of_leg-entries-requires
of_leg-entries-requires c = let p = c.requires in (p.2, p.3, rw c.lattice_of-l.ensures (usable-boxes p.0))

pub returns-in_err-lowest : goal.returns-in_err-lowest
unfolding first_hit
returns-in_err-lowest c =
    let p = c.requires in
    let a = c.args in
    c.from_residual.ensures
    ∙ sym (found_none (filled_and_touched (is_filled a.map.now) a.g a.a a.b) (entry_of_cell a.g a.a a.b)
    (λ n. entry-positive a.a a.b (corner_of a.g n) (cube a.g.edge)) (cell_count a.g)
    (λ m u. sym (same a.g a.a a.b p.0 c.lattice_of-l.ensures c.box_range-block.ensures a.map.now c.of_leg-slabs.ensures m u) ∙ c.in_err-lowest.ensures m u))

pub returns : goal.returns
unfolding first_hit
returns c =
    let p = c.requires in
    let a = c.args in
    let g = a.g in
    let l-is = c.lattice_of-l.ensures in
    sym c.search-2.ensures
    ∙ nearest-same _ _ _ _ (cell_count g) (same g a.a a.b p.0 l-is c.box_range-block.ensures a.map.now c.of_leg-slabs.ensures)
    (λ n.
    let i = x_of_cell g.nx n in
    let j = y_of_cell g.nx g.ny n in
    let k = z_of_cell g.nx g.ny n in
    ap (λ (x : Entries). entry_at x i j k) (entries-are g a.a a.b p.0 l-is c.of_leg-entries.ensures) ∙ entry-is (lattice_of g) a.a a.b i j k)
