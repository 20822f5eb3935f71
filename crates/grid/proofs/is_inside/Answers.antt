-- `grid::is_inside`: the three axes in turn, up to the first that does not hold the point.
use Rattle.std.proofs.Common.{◌≡◌, sym, ◌∙◌, ℕ, ℤ, pos, ◌*ℤ◌, FitsSigned, to_z, of_z, w64, Bool, true, false}
use borrow.Author.Rules.{rules}
use lib.Dec.{lit<}
use mir.Facts.{to_z-of_z}
use Rattle.integers.specs.Within.{Within}
use Rattle.integers.proofs.Bounds.{within-fits}
use Rattle.geometry.specs.Bounds.{coordinate_max, step_max}
use Rattle.grid.specs.Grid.{inside_on, inside}
use Rattle.grid.proofs.is_inside.Goals as goal
use Rattle.grid.proofs.is_inside.Goals.{then-inside_on, else-inside_on}

-- an axis, of the numbers as the machine reads them back
axis : {o e q : ℤ} (n : ℕ) → Within coordinate_max o → Within step_max e → FitsSigned w64 q
    → inside_on (to_z w64 (of_z w64 o)) (pos n *ℤ to_z w64 (of_z w64 e)) (to_z w64 (of_z w64 q)) ≡ inside_on o (pos n *ℤ e) q
axis {o} {e} {q} n a b f =
    rw (to_z-of_z {w = w64} {z = o} (within-fits (lit< tt) a), to_z-of_z {w = w64} {z = q} f, to_z-of_z {w = w64} (within-fits (lit< tt) b))

pub returns-then-inside_on-2 : goal.returns-then-inside_on-2
unfolding inside
returns-then-inside_on-2 c =
    let g = c.args.g in
    let p = c.requires in
    let x = c.inside_on.ensures ∙ axis {q = c.args.p.x} g.nx p.origin.x p.edge (search rules) in
    let z = c.inside_on-then-inside_on-2.ensures ∙ axis {q = c.args.p.z} g.nz p.origin.z p.edge (search rules) in
    elim c.if-inside_on.branch [
      | then-inside_on w ↦
          let y = w.inside_on-then-inside_on.ensures ∙ axis {q = c.args.p.y} g.ny p.origin.y p.edge (search rules) in
          rw (sym x ∙ w.if-inside_on.true, sym y ∙ sym w.value-is ∙ c.if-inside_on-2.true) z
      | else-inside_on w ↦ let no : ◌≡◌ {A = Bool} true false = sym c.if-inside_on-2.true ∙ w.value-is ∙ w.if-inside_on.false in cc
    ]

pub returns-else-inside_on-2 : goal.returns-else-inside_on-2
unfolding inside
returns-else-inside_on-2 c =
    let g = c.args.g in
    let p = c.requires in
    let x = c.inside_on.ensures ∙ axis {q = c.args.p.x} g.nx p.origin.x p.edge (search rules) in
    elim c.if-inside_on.branch [
      | then-inside_on w ↦
          let y = w.inside_on-then-inside_on.ensures ∙ axis {q = c.args.p.y} g.ny p.origin.y p.edge (search rules) in
          rw (sym x ∙ w.if-inside_on.true, sym y ∙ sym w.value-is ∙ c.if-inside_on-2.false) c.if-inside_on-2.false
      | else-inside_on w ↦ rw (sym x ∙ w.if-inside_on.false) c.if-inside_on-2.false
    ]
