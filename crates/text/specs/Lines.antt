-- The lines of a listing and of a route's answer. Definitions only.
use Rattle.std.specs.Prelude.{List, [], ◌∷◌, ◌++◌, ℕ}
use Rattle.text.specs.Text.{decimal, space, line_feed}

-- ---- words, with the spaces beside them
-- "FILLED "
abbrev pub filled_word : List ℕ
filled_word = 70 ∷ 73 ∷ 76 ∷ 76 ∷ 69 ∷ 68 ∷ 32 ∷ []

-- " OF "
abbrev pub of_word : List ℕ
of_word = 32 ∷ 79 ∷ 70 ∷ 32 ∷ []

-- "REFUSED "
abbrev pub refused_word : List ℕ
refused_word = 82 ∷ 69 ∷ 70 ∷ 85 ∷ 83 ∷ 69 ∷ 68 ∷ 32 ∷ []

-- "BLOCKED "
abbrev pub blocked_word : List ℕ
blocked_word = 66 ∷ 76 ∷ 79 ∷ 67 ∷ 75 ∷ 69 ∷ 68 ∷ 32 ∷ []

-- ---- lines
-- "FREE"
abbrev pub free_line : List ℕ
free_line = 70 ∷ 82 ∷ 69 ∷ 69 ∷ line_feed

-- A word, a number, a second word and a second number
abbrev pub pair_line : (word : List ℕ) (a : ℕ) (second : List ℕ) (b : ℕ) → List ℕ
pair_line word a second b = word ++ decimal a ++ second ++ decimal b ++ line_feed

-- "FILLED count OF cells"
abbrev pub filled_line : (count cells : ℕ) → List ℕ
filled_line count cells = pair_line filled_word count of_word cells

-- "REFUSED number place"
abbrev pub refused_line : (number place : ℕ) → List ℕ
refused_line number place = pair_line refused_word number space place

-- "BLOCKED leg cell"
abbrev pub blocked_line : (leg cell : ℕ) → List ℕ
blocked_line leg cell = pair_line blocked_word leg space cell

-- "i j k"
abbrev pub place_line : (i j k : ℕ) → List ℕ
place_line i j k = decimal i ++ space ++ decimal j ++ space ++ decimal k ++ line_feed

-- ---- lengths that are enough
-- Of a line with two words and two numbers, whatever they are.
abbrev pub first_most : ℕ
first_most = 64

-- Of a cell's line. The longest is "63 63 63" with its line feed.
abbrev pub line_most : ℕ
line_most = 9
