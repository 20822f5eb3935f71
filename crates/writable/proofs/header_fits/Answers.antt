-- `writable::header_fits` meets its contract: test by test, up to the first that fails.
use Rattle.std.proofs.Common.{rules, ◌≡◌, refl, sym, ap, ◌∙◌, Bool, List, ℤ, pos, length, w32, w64, to_z, of_z}
use lib.ListN.{get_or}
use mir.Facts.{to_z-of_z}
use Rattle.integers.proofs.Omega.{le-false, true-lt}
use Rattle.layout.specs.declared.Layout.{Layout}
use Rattle.writable.specs.declared.Bounds.{Bounds}
use Rattle.layout.specs.Layout.{header_fields}
use Rattle.layout_write.specs.Writing.{can_hold_all}
use Rattle.frame.specs.Questions.{extent_fits}
use Rattle.writable.specs.Inner.{bounds_of, each_between}
use Rattle.writable.proofs.All.{header-held}
use Rattle.writable.proofs.Grids.{grid-held}
use Rattle.writable.proofs.header_fits.Goals as goal

-- the fields
held : (l : Layout) (zs : List ℤ) {bs : List Bounds} {r : Bool} → length zs ≡ 10 → bs ≡ bounds_of (header_fields l)
    → r ≡ each_between bs zs → r ≡ can_hold_all (header_fields l) zs
held l zs n a e = e ∙ ap (λ (bs : List Bounds). each_between bs zs) a ∙ header-held (header_fields l) zs n

pub returns-then-not-each_between : goal.returns-then-not-each_between
returns-then-not-each_between c =
    let all = held c.args.layout.shape c.args.numbers.now c.requires c.header_bounds.ensures c.each_between.ensures in
    rw (sym all ∙ c.if-not-each_between.true) refl

pub grid_of-requires : goal.grid_of-requires
grid_of-requires c =
    let all = held c.args.layout.shape c.args.numbers.now c.requires c.header_bounds.ensures c.each_between.ensures in
    sym all ∙ c.if-not-each_between.false

pub extent_fits-requires : goal.extent_fits-requires
extent_fits-requires c =
    let l = c.args.layout.shape in
    let all = held l c.args.numbers.now c.requires c.header_bounds.ensures c.each_between.ensures in
    rw c.grid_of.ensures (grid-held l c.args.numbers.now (sym all ∙ c.if-not-each_between.false))

pub returns : goal.returns
returns c =
    let l = c.args.layout.shape in
    let all = held l c.args.numbers.now c.requires c.header_bounds.ensures c.each_between.ensures in
    let h = get_or c.args.numbers.now 4 (pos 0) in
    let read : to_z w32 (of_z w32 h) ≡ h = to_z-of_z {w = w32} (search rules) in
    let far : to_z w64 (of_z w64 l.farthest) ≡ l.farthest = to_z-of_z {w = w64} (search rules) in
    c.extent_fits.ensures
    ∙ (λ i. extent_fits (far i) (c.grid_of.ensures i))
    ∙ rw (sym all ∙ c.if-not-each_between.false, true-lt (pos 0) h (le-false h (pos 0) (rw read at c.if-numbers-le0.false))) refl
