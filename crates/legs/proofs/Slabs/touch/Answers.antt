-- `legs::Slabs::touch`: the slab in XY, then the one in ZX.
use mathlib.Core.Path.{◌≡◌, ◌∙◌, sym, ap₂}
use Prim.Native.Nat.{ℕ, ◌≤◌}
use native.Mathlib.Nat.{lt_of_le_of_lt}
use lib.Dec.{lit<}
use lib.IntN.{pos}
use mir.Syntax.{w64}
use mir.Val.{to_z}
use mir.Facts.{to_z_pos}
use Rattle.geometry.specs.Bounds.{index_max}
use Rattle.legs.specs.Slab.{slab_holds, cell_holds}
use Rattle.legs.proofs.Slabs.touch.Goals as goal

-- a cell's number, as the machine casts it
read : {n : ℕ} → n ≤ index_max → to_z w64 n ≡ pos n
read h = to_z_pos w64 (lt_of_le_of_lt h (lit< tt))

pub returns-then-holds : goal.returns-then-holds
unfolding cell_holds
returns-then-holds c =
    let p = c.requires in
    let a = c.args in
    rw (sym (ap₂ (slab_holds a.self.now.xy) (read p.0) (read p.1)) ∙ sym c.holds.ensures ∙ c.if-holds.true)
    (c.holds-then-holds.ensures ∙ ap₂ (slab_holds a.self.now.zx) (read p.2) (read p.0))

pub returns-else-holds : goal.returns-else-holds
unfolding cell_holds
returns-else-holds c =
    let p = c.requires in
    let a = c.args in
    c.if-holds.false ∙ rw (sym (ap₂ (slab_holds a.self.now.xy) (read p.0) (read p.1)) ∙ sym c.holds.ensures ∙ c.if-holds.false)
