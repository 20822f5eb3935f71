-- `frame::extent_fits` meets its contract: the three axes in turn, up to the first that does not fit.
use Rattle.std.proofs.Common.{◌≡◌, sym, ◌∙◌, Bool, true, false, ℕ, ◌^◌, lit<, ℤ, w64, to_z, of_z, FitsSigned}
use mir.Facts.{to_z-of_z}
use Rattle.integers.specs.Within.{Within}
use Rattle.integers.proofs.Bounds.{within-fits}
use Rattle.grid.specs.declared.Grid.{Grid}
use Rattle.grid.specs.Usable.{GridWithin}
use Rattle.frame.specs.Questions.{axis_fits}
use Rattle.frame.proofs.extent_fits.Goals.{then-axis_fits, else-axis_fits}
use Rattle.frame.proofs.extent_fits.Goals as goal

-- an axis, of the numbers as the machine reads them back
axis : {f : ℤ} {g : Grid} → FitsSigned w64 f → GridWithin (2 ^ 24) (2 ^ 25) g → {o : ℤ} (n : ℕ) {r : Bool} → Within (2 ^ 24) o
    → r ≡ axis_fits (to_z w64 (of_z w64 f)) (to_z w64 (of_z w64 o)) n (to_z w64 (of_z w64 g.edge)) → r ≡ axis_fits f o n g.edge
axis fs p {o} n b e =
    e ∙ rw (to_z-of_z fs, to_z-of_z {w = w64} {z = o} (within-fits (lit< tt) b), to_z-of_z {w = w64} (within-fits (lit< tt) p.edge))

pub returns-then-axis_fits-2 : goal.returns-then-axis_fits-2
returns-then-axis_fits-2 c =
    let p = c.requires in
    let r = c.ranges.farthest in
    let x = axis r p c.args.g.nx p.origin.x c.axis_fits.ensures in
    let z = axis r p c.args.g.nz p.origin.z c.axis_fits-then-axis_fits-2.ensures in
    elim c.if-axis_fits.branch [
      | then-axis_fits w ↦
          let y = axis r p c.args.g.ny p.origin.y w.axis_fits-then-axis_fits.ensures in
          let x-holds = sym x ∙ w.if-axis_fits.true in
          let y-holds = sym y ∙ sym w.value-is ∙ c.if-axis_fits-2.true in
          z ∙ rw (x-holds, y-holds)
      | else-axis_fits w ↦ let never : true ≡ false = sym c.if-axis_fits-2.true ∙ w.value-is ∙ w.if-axis_fits.false in cc
    ]
