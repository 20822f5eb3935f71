-- `writable::all_between`: the tests so far, all of them.
use Rattle.std.proofs.Common.{◌≡◌, Bool, List, ℕ, ℤ, pos}
use lib.ListN.{get_or}
use Rattle.layout_write.specs.Writing.{between}
use Rattle.writable.specs.Fits.{all_below}
use Rattle.writable.proofs.all_between.Given as goal

abbrev pub test : ℤ → ℤ → List ℤ → ℕ → Bool
test low high zs i = between low high (get_or zs i (pos 0))

abbrev pub invariant-loop-x : goal.invariant-loop-x
invariant-loop-x l = l.good ≡ all_below (test l.bounds.low l.bounds.high l.numbers) l.x-index
