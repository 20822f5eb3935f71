-- Texts and what they say, by computation on the definitions themselves.
use mathlib.Core.List.{[], ◌∷◌}
use mathlib.Core.Path.{◌≡◌, refl}
use lib.IntN.{pos, negsuc}
use Rattle.parse.specs.Parse.{figures_from, figures, has_minus, number_in}
use Rattle.std.specs.Prelude.{Ok, Err}
use Rattle.number_list.specs.Numbers.{number_of, number, wrong, end, reading, reading_of, answer_from, numbers_in, over}

-- an empty text
pub empty : reading_of [] ≡ end
unfolding figures_from figures has_minus number_in number_of reading answer_from numbers_in
empty = refl

-- "# 1"
pub comment : reading_of (35 ∷ 32 ∷ 49 ∷ []) ≡ end
unfolding figures_from figures has_minus number_in number_of reading answer_from numbers_in
comment = refl

-- "1 -2#x", a line feed, " 3"
pub numbers : reading_of (49 ∷ 32 ∷ 45 ∷ 50 ∷ 35 ∷ 120 ∷ 10 ∷ 32 ∷ 51 ∷ []) ≡ number (pos 1) (number (negsuc 1) (number (pos 3) end))
unfolding figures_from figures has_minus number_in number_of reading answer_from numbers_in
numbers = refl

-- "1", a line feed, "2x 3": the word on line 2 is wrong
pub wrong_word : reading_of (49 ∷ 10 ∷ 50 ∷ 120 ∷ 32 ∷ 51 ∷ []) ≡ number (pos 1) (wrong 2)
unfolding figures_from figures has_minus number_in number_of reading answer_from numbers_in
wrong_word = refl

-- a tab parts no words
pub tab : reading_of (49 ∷ 9 ∷ 50 ∷ []) ≡ wrong 1
unfolding figures_from figures has_minus number_in number_of reading answer_from numbers_in
tab = refl

-- the least number of 32 bits, and one more than the greatest
pub least : reading_of (45 ∷ 50 ∷ 49 ∷ 52 ∷ 55 ∷ 52 ∷ 56 ∷ 51 ∷ 54 ∷ 52 ∷ 56 ∷ []) ≡ number (negsuc 2147483647) end
unfolding figures_from figures has_minus number_in number_of reading answer_from numbers_in
least = refl

pub too_large : reading_of (50 ∷ 49 ∷ 52 ∷ 55 ∷ 52 ∷ 56 ∷ 51 ∷ 54 ∷ 52 ∷ 56 ∷ []) ≡ wrong 1
unfolding figures_from figures has_minus number_in number_of reading answer_from numbers_in
too_large = refl

-- ---- what is answered
pub three : answer_from 0 (number (pos 1) (number (pos 2) (number (pos 3) end))) ≡ Ok 3
unfolding answer_from
three = refl

pub second-line : answer_from 0 (number (pos 1) (wrong 2)) ≡ Err (record { line = 2 })
unfolding answer_from
second-line = refl

pub before-wrong : numbers_in (number (pos 1) (wrong 2)) ≡ (pos 1 ∷ [])
unfolding numbers_in
before-wrong = refl

-- room for one; and room for two
pub no_room : over (pos 1 ∷ pos 2 ∷ []) (pos 7 ∷ []) ≡ (pos 1 ∷ [])
no_room = refl

pub room : over (pos 1 ∷ []) (pos 7 ∷ pos 8 ∷ []) ≡ (pos 1 ∷ pos 8 ∷ [])
room = refl
