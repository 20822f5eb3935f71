-- A list of numbers, from text. Definitions only. A character is its ASCII code: 10 is a line feed, 32 a space, 35 is `#`.
use Rattle.std.specs.Prelude.{Bool, true, false, cond, ◌&&◌, List, [], ◌∷◌, ◌++◌, ℕ, suc, eqb, ℤ, pos, negsuc, length, take, drop, Option, Some, None, Result, Ok, Err}
use Rattle.std.specs.Int.Signed.{le_z}
use Rattle.parse.specs.Parse.{number_in}
use Rattle.number_list.specs.declared.WrongWord.{WrongWord}

-- ---- a word
-- Do 32 bits hold a number? negsuc 2147483647 is −2147483648.
abbrev pub fits : ℤ → Bool
fits z = le_z (negsuc 2147483647) z && le_z z (pos 2147483647)

abbrev pub held : Option ℤ → Option ℤ
held (Some z) = cond (fits z) (Some z) None
held None = None

-- The number that a word says, where 32 bits hold it.
unfoldable pub number_of : List ℕ → Option ℤ
number_of word = held (number_in word)

-- ---- a text
-- What a text says: a number, and what is said behind it; a wrong word, by its line; or no more.
pub data Reading : Type 0 where
  number : ℤ → Reading → Reading
  wrong : (line : ℕ) → Reading
  end : Reading

-- A word, and what is said behind it.
abbrev pub said : (line : ℕ) → Option ℤ → Reading → Reading
said line (Some z) behind = number z behind
said line None behind = wrong line

-- The characters of a word that ends here, and what is said behind it. No characters are no word.
abbrev pub ended : (line : ℕ) → List ℕ → Reading → Reading
ended line [] behind = behind
ended line (c ∷ cs) behind = said line (number_of (c ∷ cs)) behind

-- What the rest of a text says, inside a comment or not, behind the characters of a word that may go on. A comment begins
-- at `#` and lasts up to the line feed.
unfoldable pub reading : (comment : Bool) (line : ℕ) (word rest : List ℕ) → Reading
reading comment line word [] = ended line word end
reading comment line word (c ∷ cs) =
    cond (eqb c 10) (ended line word (reading false (suc line) [] cs))
    (cond comment (reading true line [] cs)
    (cond (eqb c 35) (ended line word (reading true line [] cs))
    (cond (eqb c 32) (ended line word (reading false line [] cs))
    (reading false line (word ++ (c ∷ [])) cs))))

-- Lines are counted from 1.
abbrev pub reading_of : List ℕ → Reading
reading_of text = reading false 1 [] text

-- ---- what is answered
-- The line of the wrong word, or how many numbers there are, behind n others.
unfoldable pub answer_from : ℕ → Reading → Result ℕ WrongWord
answer_from n (number z behind) = answer_from (suc n) behind
answer_from n (wrong line) = Err (record { line = line })
answer_from n end = Ok n

-- The numbers up to the first wrong word.
unfoldable pub numbers_in : Reading → List ℤ
numbers_in (number z behind) = z ∷ numbers_in behind
numbers_in (wrong line) = []
numbers_in end = []

-- Numbers over the start of others, as far as there is room; those behind them stay.
abbrev pub over : (new old : List ℤ) → List ℤ
over new old = take (length old) new ++ drop (length new) old
