-- `triangles::fill_box`: a row is filled at once, and any other box column by column.
use Rattle.std.proofs.Common.{◌≡◌, ℕ, ◌*◌, ◌≤◌, List, length, sym, ap, ◌∙◌, subst, arith}
use Rattle.grid.specs.declared.CellRange.{CellRange}
use Rattle.columns.specs.declared.Strides.{Strides}
use Rattle.columns.specs.Draw.{cells_of, Numbers, Draws, one_column, in_run, RunReady}
use Rattle.blocks.specs.Block.{SomeCells}
use Rattle.placed.specs.Numbering.{strides_of, turn_strides}
use Rattle.triangles.proofs.Views.{turn-numbers, cells-turned}
use Rattle.triangles.proofs.Ways.{view, row-x, row-y, row-z}
use Rattle.triangles.proofs.fill_box.Goals as goal

-- what a row asks
run-ready : {g h : Strides} {bytes : ℕ} {u v w : CellRange} → h ≡ g → Numbers g → cells_of g ≤ 8 * bytes → SomeCells g.nu u → SomeCells g.nv v → SomeCells g.nw w → RunReady h bytes u.first v.first w
run-ready {g} {h} {bytes} {u} {v} {w} e n room a b c =
    subst (λ h. RunReady h bytes u.first v.first w) (sym e)
    (record { numbers = n; room = room; i-in = omega (arith, a.some, a.most); j-in = omega (arith, b.some, b.most); ordered = omega (arith, c.some); end = c.most })

-- a box that may be filled, in the numbering with the axes taken in turn
drawn : {g h : Strides} (i j : ℕ) (w : CellRange) {old new : List ℕ} → h ≡ g → Draws h (one_column i j) (in_run w) old new → Draws g (one_column i j) (in_run w) old new
drawn i j w {old} {new} e d = subst (λ h. Draws h (one_column i j) (in_run w) old new) e d

room-turned : (g : Strides) (bytes : ℕ) → cells_of g ≤ 8 * bytes → cells_of (turn_strides g) ≤ 8 * bytes
room-turned g bytes room = subst (λ n. n ≤ 8 * bytes) (sym (cells-turned g.nu g.nv g.nw)) room

pub fill_run-requires : goal.fill_run-requires
fill_run-requires c =
    let a = c.args in
    let p = c.requires.0 in
    run-ready (c.turn_strides.ensures ∙ ap turn_strides c.strides-s.ensures) (turn-numbers (view a.g a.l p.grid c.requires.2).numbers)
    (room-turned (strides_of a.g) (length a.map.now) p.grid.room) p.y p.z p.x

pub fill_run-requires-in-Some-Y : goal.fill_run-requires-in-Some-Y
fill_run-requires-in-Some-Y c =
    let a = c.args in
    let p = c.requires.0 in
    let g = strides_of a.g in
    let e = c.turn_strides-in-Some-Y-2.ensures ∙ ap turn_strides (c.turn_strides-in-Some-Y.ensures ∙ ap turn_strides c.strides-s.ensures) in
    run-ready e (turn-numbers (turn-numbers (view a.g a.l p.grid c.requires.2).numbers))
    (room-turned (turn_strides g) (length a.map.now) (room-turned g (length a.map.now) p.grid.room)) p.z p.x p.y

pub fill_run-requires-in-Some-Z : goal.fill_run-requires-in-Some-Z
fill_run-requires-in-Some-Z c =
    let a = c.args in
    let p = c.requires.0 in
    run-ready c.strides-s.ensures (view a.g a.l p.grid c.requires.2).numbers p.grid.room p.x p.y p.z

pub returns-in-Some-X : goal.returns-in-Some-X
returns-in-Some-X c =
    let a = c.args in
    let b = a.b in
    let e = c.turn_strides.ensures ∙ ap turn_strides c.strides-s.ensures in
    row-x a.g a.l c.requires.0.grid c.requires.2 (cc) (drawn b.y.first b.z.first b.x e c.fill_run.ensures)

pub returns-in-Some-Y : goal.returns-in-Some-Y
returns-in-Some-Y c =
    let a = c.args in
    let b = a.b in
    let e = c.turn_strides-in-Some-Y-2.ensures ∙ ap turn_strides (c.turn_strides-in-Some-Y.ensures ∙ ap turn_strides c.strides-s.ensures) in
    row-y a.g a.l c.requires.0.grid c.requires.2 (cc) (drawn b.z.first b.x.first b.y e c.fill_run-in-Some-Y.ensures)

pub returns-in-Some-Z : goal.returns-in-Some-Z
returns-in-Some-Z c =
    let a = c.args in
    let b = a.b in
    row-z a.g a.l c.requires.0.grid c.requires.2 (cc) (drawn b.x.first b.y.first b.z c.strides-s.ensures c.fill_run-in-Some-Z.ensures)
