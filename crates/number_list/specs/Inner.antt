-- Where a word and a line end. Definitions only; no public promise cites them.
use Rattle.std.specs.Prelude.{Bool, false, cond, not, List, [], ◌∷◌, ℕ, suc, eqb}

-- Does a character belong to a word?
unfoldable pub is_word : ℕ → Bool
is_word c = cond (eqb c 10) false (cond (eqb c 35) false (not (eqb c 32)))

-- How many characters a text begins with that belong to a word.
unfoldable pub word_length : List ℕ → ℕ
word_length [] = 0
word_length (c ∷ cs) = cond (is_word c) (suc (word_length cs)) 0

-- How many characters of a text stand before the first line feed.
unfoldable pub line_length : List ℕ → ℕ
line_length [] = 0
line_length (c ∷ cs) = cond (eqb c 10) 0 (suc (line_length cs))
