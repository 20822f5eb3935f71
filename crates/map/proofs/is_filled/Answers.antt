-- `map::is_filled` computes what its contract says.
use Rattle.std.proofs.Common.{refl}
use Rattle.map.specs.Map.{is_filled}
use Rattle.map.proofs.is_filled.Goals as goal

pub returns : goal.returns
unfolding is_filled
returns c = refl
