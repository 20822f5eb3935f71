-- A worked example, by computation on the definition: what each case of the answer says. Assumes nothing.
use mathlib.Core.List.{[], ◌∷◌}
use mathlib.Core.Path.{◌≡◌, refl}
use Rattle.std.specs.Prelude.{Ok, Err}
use Rattle.refusal.specs.declared.Limit.TheVariants.{PointOutside}
use Rattle.refusal.specs.Limit.{gives, refused, said}
use Rattle.demand.specs.declared.Finding.TheVariants.{Free, Blocked}

pub said-route : (said (Ok Free) ∷ said (Ok (Blocked 2 3)) ∷ said (Err (PointOutside 4)) ∷ []) ≡ (gives Free ∷ gives (Blocked 2 3) ∷ refused 10 4 ∷ [])
said-route = refl
