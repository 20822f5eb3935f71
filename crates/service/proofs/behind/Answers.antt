-- `service::behind`: the check, question 16, then the box of the cell.
use mathlib.Core.List.{List}
use mathlib.Core.Path.{◌≡◌, sym, ap, ◌∙◌, subst, subst₂}
use Prim.Native.Nat.{ℕ, ◌<◌}
use native.Mathlib.Omega.{arith}
use lib.IntN.{ℤ}
use lib.Dec.{lit<}
use mir.Syntax.{w64}
use mir.Val.{to_z, of_z}
use mir.Facts.{to_z-of_z}
use Rattle.integers.proofs.Bounds.{within-fits}
use Rattle.geometry.specs.declared.Point.{Point}
use Rattle.geometry.specs.Geometry.{cube}
use Rattle.geometry.specs.Bounds.{BoundedPoint}
use Rattle.std.specs.Prelude.{Option, Some, None, Result, Ok, Err, IsErrAnd, option_map, refl}
use Rattle.refusal.specs.declared.Limit.{Limit}
use Rattle.refusal.specs.Limit.{gives, said_limit}
use Rattle.grid.specs.declared.Lattice.{Lattice}
use Rattle.grid.specs.Grid.{cell_count, box_of_cell, lattice_of}
use Rattle.grid.specs.Usable.{UsableLattice}
use Rattle.grid.proofs.Usable.{usable-boxes}
use Rattle.layout.specs.declared.Header.{Header}
use Rattle.frame.specs.Questions.{checked}
use Rattle.frame.proofs.Accepted.{accepted, header_is, usable, sides}
use Rattle.service.specs.declared.Bar.{Bar}
use Rattle.service.specs.Bar.{lowest, said_bar, ShownAt, Shown}
use Rattle.service.specs.Inner.{overlaps_record}
use Rattle.service.proofs.Sizes.{corner-bounded}
use Rattle.service.proofs.Answers.{behind-refused, behind-outside, behind-found}
use Rattle.service.proofs.behind.Goals as goal

-- the boxes of an accepted file's grid, where b is what `lattice_of` gives
module _ (file : List ℕ) (h : Header) (is : checked file ≡ gives h) {b : Lattice} (b-is : b ≡ lattice_of h.grid) where
  boxes : UsableLattice (lattice_of h.grid)
  boxes = usable-boxes (usable (accepted file h is))

  given : UsableLattice b
  given = subst UsableLattice (sym b-is) boxes

  extent-is : to_z w64 (of_z w64 b.extent) ≡ (lattice_of h.grid).extent
  extent-is = to_z-of_z {w = w64} (within-fits (lit< tt) given.extent) ∙ ap (λ (x : Lattice). x.extent) b-is

  corner-is : (n : ℕ) {p : Point} → p ≡ box_of_cell h.grid b n → p ≡ box_of_cell h.grid (lattice_of h.grid) n
  corner-is n e = e ∙ ap (λ (x : Lattice). box_of_cell h.grid x n) b-is

-- an answer that is handed on, and one that was found
handed : (s : List ℕ) (n : ℕ) (r : Result (Option Bar) Limit) (l : Limit) → IsErrAnd r (λ e. e ≡ l) → (said_bar r ≡ said_limit l) × Shown s n r
handed s n (Ok b) l h = absurd h
handed s n (Err e) l h = (ap said_limit h, tt)

said-found : (r : Option Bar) → said_bar (Ok r) ≡ gives (option_map (λ b. b.index) r)
said-found None = refl
said-found (Some b) = refl

pub returns-in_err-frame : goal.returns-in_err-frame
returns-in_err-frame c =
    let (said, shown) = handed c.args.file.now c.args.cell _ _ c.from_residual.ensures.1 in
    (said ∙ sym (behind-refused c.args.file.now c.args.cell (sym c.in_err-frame.ensures.said)), shown)

pub cell_count-requires : goal.cell_count-requires
cell_count-requires c = rw c.header.ensures (sides _ c.in_ok-frame.frame.accepted)

pub returns-then-cell_count-cell : goal.returns-then-cell_count-cell
returns-then-cell_count-cell c =
    let cells = rw c.header.ensures at c.cell_count.ensures.0 in
    (sym (behind-outside c.args.file.now c.args.cell _ (sym c.in_ok-frame.ensures.said) (omega (arith, cells, c.if-cell_count-cell.true))), tt)

pub corner_of-requires : goal.corner_of-requires
corner_of-requires c =
    let f = c.in_ok-frame.frame in
    let cells = rw c.header.ensures at c.cell_count.ensures.0 in
    rw c.header.ensures (
      usable (accepted _ _ f.accepted),
      given _ _ f.accepted (rw c.header.ensures at c.lattice_of-l.ensures),
      omega (arith, cells, c.if-cell_count-cell.false),
    )

pub find-requires : goal.find-requires
find-requires c =
    let f = c.in_ok-frame.frame in
    let l-is = rw c.header.ensures at c.lattice_of-l.ensures in
    let corner = rw c.header.ensures at c.corner_of.ensures in
    let cells = rw c.header.ensures at c.cell_count.ensures.0 in
    let l = boxes _ _ f.accepted l-is in
    let inside : c.args.cell < cell_count f.header.grid = omega (arith, cells, c.if-cell_count-cell.false) in (
      subst BoundedPoint (sym (corner-is _ _ f.accepted l-is c.args.cell corner)) (corner-bounded f.header.grid c.args.cell (accepted _ _ f.accepted).grid.within inside),
      rw (extent-is _ _ f.accepted l-is) l.extent,
      rw (extent-is _ _ f.accepted l-is) l.thick,
    )

pub returns : goal.returns
returns c =
    let f = c.in_ok-frame.frame in
    let file = c.args.file.now in
    let h = f.header in
    let n = c.args.cell in
    let r = c.find.result in
    let e = sym c.in_ok-frame.ensures.said in
    let l-is = rw c.header.ensures at c.lattice_of-l.ensures in
    let corner = rw c.header.ensures at c.corner_of.ensures in
    let cells = rw c.header.ensures at c.cell_count.ensures.0 in
    let inside : n < cell_count h.grid = omega (arith, cells, c.if-cell_count-cell.false) in
    let found = subst₂ (λ (p : Point) (d : ℤ). (option_map (λ b. b.index) r ≡ lowest (overlaps_record file p (cube d)) h.count) × ShownAt file h.count p (cube d) r)
    (corner-is file h e l-is n corner) (extent-is file h e l-is) (rw c.in_ok-frame.ensures.same at c.find.ensures) in
    let whole = subst (λ (x : Header). let g = x.grid in let b = lattice_of g in (option_map (λ b. b.index) r ≡ lowest (overlaps_record file (box_of_cell g b n) (cube b.extent)) x.count) × ShownAt file x.count (box_of_cell g b n) (cube b.extent) r)
    (sym (header_is file h e)) found in
    (said-found r ∙ ap gives whole.0 ∙ sym (behind-found file n h e inside), whole.1)
