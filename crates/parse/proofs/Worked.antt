-- Words and what they say, by computation on the definitions themselves.
use mathlib.Core.List.{[], ◌∷◌}
use mathlib.Core.Path.{◌≡◌, refl}
use lib.IntN.{pos, negsuc}
use Rattle.std.specs.Prelude.{Some, None}
use Rattle.parse.specs.Parse.{figures_from, figures, has_minus, number_in}

-- "-8192"
pub negative : number_in (45 ∷ 56 ∷ 49 ∷ 57 ∷ 50 ∷ []) ≡ Some (negsuc 8191)
unfolding figures_from figures has_minus number_in
negative = refl

-- "007"
pub zeros : number_in (48 ∷ 48 ∷ 55 ∷ []) ≡ Some (pos 7)
unfolding figures_from figures has_minus number_in
zeros = refl

-- "", "-", "1-" and "+1"
pub empty : number_in [] ≡ None
unfolding figures_from figures has_minus number_in
empty = refl

pub sign-alone : number_in (45 ∷ []) ≡ None
unfolding figures_from figures has_minus number_in
sign-alone = refl

pub sign-behind : number_in (49 ∷ 45 ∷ []) ≡ None
unfolding figures_from figures has_minus number_in
sign-behind = refl

pub plus : number_in (43 ∷ 49 ∷ []) ≡ None
unfolding figures_from figures has_minus number_in
plus = refl
