-- `points::test_points`: the numbers of the points before the loop's are copied.
use Rattle.std.proofs.Common.{◌≡◌, ◌*◌, length, take}
use Rattle.points.specs.Points.{numbers_of}
use Rattle.points.proofs.test_points.Given as goal

abbrev pub invariant-loop-i : goal.invariant-loop-i
invariant-loop-i l = (length l.numbers ≡ 195) × (take (3 * l.i) l.numbers ≡ numbers_of (take l.i l.points))
