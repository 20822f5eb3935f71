-- Text in lent bytes: numbers in base ten, and where a text is put. Definitions only.
-- A character is its ASCII code.
use Rattle.std.specs.Prelude.{cond, List, [], ◌∷◌, ◌++◌, ℕ, zero, suc, ◌+◌, ◌/◌, ◌%◌, ltb, ℤ, pos, negsuc, length, take, drop}

-- The character of a digit: 48 is `0`.
abbrev pub figure : ℕ → List ℕ
figure d = (48 + d) ∷ []

-- The digits of n in base ten, the most significant first, with no zero in front. `most` + 1 digits are enough.
unfoldable pub digits : (most n : ℕ) → List ℕ
digits zero n = figure n
digits (suc most) n = cond (ltb n 10) (figure n) (digits most (n / 10) ++ figure (n % 10))

unfoldable pub decimal : ℕ → List ℕ
decimal n = digits n n

abbrev pub space : List ℕ
space = 32 ∷ []

abbrev pub line_feed : List ℕ
line_feed = 10 ∷ []

-- A whole number in base ten: 45 is `-`, and negsuc n is −1 − n.
abbrev pub signed_decimal : ℤ → List ℕ
signed_decimal (pos n) = decimal n
signed_decimal (negsuc n) = (45 ∷ []) ++ decimal (suc n)

-- Numbers, each with a space behind it.
unfoldable pub spaced : List ℤ → List ℕ
spaced [] = []
spaced (z ∷ zs) = (signed_decimal z ++ space) ++ spaced zs

-- ---- the bytes with a text put at a place, and every other byte as it was
unfoldable pub spliced : List ℕ → ℕ → List ℕ → List ℕ
spliced s at t = take at s ++ t ++ drop (at + length t) s
