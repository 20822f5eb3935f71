-- `writable::kinds_fit`: each kind so far is 0, 1 or 2.
use Rattle.std.proofs.Common.{◌≡◌, ◌*◌, Bool, true, List, ℕ, ℤ, pos}
use lib.ListN.{get_or}
use Rattle.layout_write.specs.Writing.{between}
use Rattle.writable.specs.Fits.{all_below}
use Rattle.writable.proofs.kinds_fit.Given as goal

abbrev pub test : List ℤ → ℕ → Bool
test zs i = between (pos 0) (pos 2) (get_or zs (i * 10) (pos 0))

abbrev pub invariant-loop-i : goal.invariant-loop-i
invariant-loop-i l = all_below (test l.triangles) l.i ≡ true
