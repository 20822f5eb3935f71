-- `triangles::fill_triangle`: a triangle whose box of cells is empty overlaps no cell; any other may be filled.
use mathlib.Core.Bool.{Bool, true, false, ◌&&◌, ◌||◌, and-eq-true_iff, false≢true}
use mathlib.Core.Path.{◌≡◌, refl, sym, ◌∙◌}
use Prim.Native.Nat.{ℕ, ◌<◌}
use native.Mathlib.Omega.{arith}
use borrow.Author.Tests.{leb-true, leb-false}
use lib.Dec.{leb}
use Rattle.grid.specs.declared.BoxRange.{BoxRange}
use Rattle.grid.specs.declared.CellRange.{CellRange}
use Rattle.grid.specs.Range.{in_range}
use Rattle.runs.proofs.Narrow.{in-range}
use Rattle.placed.specs.Box.{is_empty}
use Rattle.triangles.proofs.Adding.{adds-nothing}
use Rattle.triangles.proofs.Ways.{view}
use Rattle.triangles.proofs.fill_triangle.Goals as goal

-- ---- a box with no cell
none : (b : BoxRange) → is_empty b ≡ true → (i j k : ℕ) → (in_range b.x i && in_range b.y j && in_range b.z k) ≡ false
none b e i j k = go (in_range b.x i && in_range b.y j && in_range b.z k) refl
  where
    not_in : (r : CellRange) (i : ℕ) → in_range r i ≡ true → leb r.end r.first ≡ false
    not_in r i h = let (l, u) = in-range r i h in no (leb r.end r.first) refl (omega arith)
      where
        no : (t : Bool) → leb r.end r.first ≡ t → r.first < r.end → t ≡ false
        no true f g = absurd (omega (arith, leb-true r.end r.first f))
        no false f g = refl

    go : (t : Bool) → (in_range b.x i && in_range b.y j && in_range b.z k) ≡ t → t ≡ false
    go false f = refl
    go true f =
        let (c, z) = (and-eq-true_iff (in_range b.x i && in_range b.y j) (in_range b.z k)).0 f in
        let (x, y) = (and-eq-true_iff (in_range b.x i) (in_range b.y j)).0 c in
        sym e ∙ (λ q. not_in b.x i x q || not_in b.y j y q || not_in b.z k z q)

-- ---- a box that has one
some : (b : BoxRange) → is_empty b ≡ false → (b.x.first < b.x.end) × (b.y.first < b.y.end) × (b.z.first < b.z.end)
some b e =
    let (xy, z) = neither (leb b.x.end b.x.first || leb b.y.end b.y.first) (leb b.z.end b.z.first) e in
    let (x, y) = neither (leb b.x.end b.x.first) (leb b.y.end b.y.first) xy in
    (leb-false _ _ x, leb-false _ _ y, leb-false _ _ z)
  where
    neither : (p q : Bool) → (p || q) ≡ false → (p ≡ false) × (q ≡ false)
    neither false q h = (refl, h)
    neither true q h = absurd (false≢true (sym h))

pub returns-then-is_empty : goal.returns-then-is_empty
returns-then-is_empty c =
    let a = c.args in
    adds-nothing (view a.g a.l c.requires.0 c.box_range-b.ensures) (none c.box_range-b.result (sym c.is_empty.ensures ∙ c.if-is_empty.true)) a.map.now

pub fill_box-requires : goal.fill_box-requires
fill_box-requires c =
    let p = c.box_range-b.ensures in
    let (x, y, z) = some c.box_range-b.result (sym c.is_empty.ensures ∙ c.if-is_empty.false) in (
      record {
        grid = c.requires.0;
        x = record { some = x; most = p.x.within };
        y = record { some = y; most = p.y.within };
        z = record { some = z; most = p.z.within };
      },
      c.requires.1,
      p,
    )
