-- The printed line of a refusal with a place, the lines of a route's answer, numbers with signs, and a text put into bytes, by computation on the definitions themselves.
use mathlib.Core.List.{[], ◌∷◌}
use mathlib.Core.Path.{◌≡◌, refl}
use lib.IntN.{pos, negsuc}
use Rattle.text.specs.Text.{digits, decimal, spaced, spliced}
use Rattle.text.specs.Lines.{refused_line, free_line, blocked_line}

-- "REFUSED 7 2"
pub printed : refused_line 7 2 ≡ (82 ∷ 69 ∷ 70 ∷ 85 ∷ 83 ∷ 69 ∷ 68 ∷ 32 ∷ 55 ∷ 32 ∷ 50 ∷ 10 ∷ [])
unfolding digits decimal
printed = refl

-- "FREE"; "BLOCKED 62 10"
pub free : free_line ≡ (70 ∷ 82 ∷ 69 ∷ 69 ∷ 10 ∷ [])
free = refl

pub blocked : blocked_line 62 10 ≡ (66 ∷ 76 ∷ 79 ∷ 67 ∷ 75 ∷ 69 ∷ 68 ∷ 32 ∷ 54 ∷ 50 ∷ 32 ∷ 49 ∷ 48 ∷ 10 ∷ [])
unfolding digits decimal
blocked = refl

-- "-10 0 7 "
pub signs : spaced (negsuc 9 ∷ pos 0 ∷ pos 7 ∷ []) ≡ (45 ∷ 49 ∷ 48 ∷ 32 ∷ 48 ∷ 32 ∷ 55 ∷ 32 ∷ [])
unfolding digits decimal spaced
signs = refl

pub put : spliced (1 ∷ 2 ∷ 3 ∷ 4 ∷ 5 ∷ []) 1 (8 ∷ 9 ∷ []) ≡ (1 ∷ 8 ∷ 9 ∷ 4 ∷ 5 ∷ [])
unfolding spliced
put = refl
