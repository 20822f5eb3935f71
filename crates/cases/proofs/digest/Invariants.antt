-- `digest` keeps the sum below the modulus.
use Rattle.std.proofs.Common.{◌<◌}
use Rattle.cases.proofs.digest.Given as goal

abbrev pub invariant-loop-byte : goal.invariant-loop-byte
invariant-loop-byte l = l.sum < l.modulus
