-- `placed::place`: the normal's corners are measured, so that they are small.
use Rattle.std.proofs.Common.{sym, subst}
use Rattle.geometry.specs.Bounds.{offset_max, TriangleWithin}
use Rattle.placed.proofs.Measured.{measured-within}
use Rattle.placed.proofs.place.Goals as goal

pub normal-n-requires : goal.normal-n-requires
normal-n-requires c = subst (TriangleWithin offset_max) (sym c.measured_from-measured.ensures) (measured-within c.requires.2.first c.requires.3)
