-- `service::find`: no triangle before the loop's overlaps the box.
use mathlib.Core.Bool.{false}
use mathlib.Core.Path.{◌≡◌}
use Prim.Native.Nat.{ℕ, ◌<◌}
use Rattle.geometry.specs.Geometry.{cube}
use Rattle.service.specs.Inner.{overlaps_record}
use Rattle.service.proofs.find.Given as goal

abbrev pub invariant-loop-index : goal.invariant-loop-index
invariant-loop-index l = (n : ℕ) → n < l.index → overlaps_record l.frame.file.now l.p (cube l.extent) n ≡ false
