-- What the lines of a PLY header are made of: texts, comments, counts. Definitions only. `s` is the whole file, `at` a place
-- in it. A character is its ASCII code: 10 is a line feed, 48 is `0`, 57 is `9`.
use Rattle.std.specs.Prelude.{Bool, true, false, cond, not, ◌&&◌, ◌||◌, List, [], ◌∷◌, Option, Some, None, ℕ, ◌+◌, ◌-◌, ◌*◌, leb, ltb, eqb, length, get_or, drop}
use Prim.Native.Char.{code}
use Prim.Native.String.{String, [] as []ᵗ, ◌∷◌ as ◌∷ᵗ◌}

-- ---- one thing behind another
-- What comes next, where there is a place; else nothing.
unfoldable pub and_then : {A : Type 0} → Option ℕ → (ℕ → Option A) → Option A
and_then (Some at) next = next at
and_then None next = None

-- What comes next, where something was read and there is a place behind it; else nothing.
unfoldable pub and_read : {A B : Type 0} → Option (A × ℕ) → (A → ℕ → Option B) → Option B
and_read (Some read) next = next read.0 read.1
and_read None next = None

-- ---- texts
-- A text as its characters.
abbrev pub bytes : String → List ℕ
bytes []ᵗ = []
bytes (c ∷ᵗ t) = code c ∷ bytes t

-- Where a text stands at a place, the place behind it.
unfoldable pub behind : (s : List ℕ) (at : ℕ) (text : List ℕ) → Option ℕ
behind s at [] = Some at
behind s at (c ∷ text) = cond (ltb at (length s)) (cond (eqb (get_or s at 0) c) (behind s (at + 1) text) None) None

-- ---- comments
-- Does it stand there?
abbrev pub stands : Option ℕ → Bool
stands (Some i) = true
stands None = false

-- A comment line: the word `comment` alone, or `comment` and a space and anything.
unfoldable pub comment : (s : List ℕ) (at : ℕ) → Bool
comment s at = stands (behind s at (bytes "comment\n")) || stands (behind s at (bytes "comment "))

-- The place behind comments, inside of one or at the start of a line. A comment goes on to behind its line feed, and there
-- the next may begin. The last argument is what the file holds from `at` on.
unfoldable pub past : (s : List ℕ) (inside : Bool) (at : ℕ) → List ℕ → ℕ
past s inside at [] = at
past s true at (c ∷ rest) = past s (not (eqb c 10)) (at + 1) rest
past s false at (c ∷ rest) = cond (comment s at) (past s true (at + 1) rest) at

-- The place behind the comments that begin at the start of a line.
unfoldable pub past_comments : (s : List ℕ) (at : ℕ) → ℕ
past_comments s at = past s false at (drop at s)

-- Where the next line that is no comment begins with a text, the place behind the text.
unfoldable pub line : (s : List ℕ) (at : ℕ) (text : List ℕ) → Option ℕ
line s at text = behind s (past_comments s at) text

-- ---- counts
-- A decimal digit.
unfoldable pub digit : ℕ → Bool
digit c = leb 48 c && leb c 57

-- Digits and a line feed, behind digits that say v: the number, and the place behind. The last argument is what the file
-- holds from `at` on.
unfoldable pub count_from : (v at : ℕ) → List ℕ → Option (ℕ × ℕ)
count_from v at [] = None
count_from v at (c ∷ rest) = cond (digit c) (count_from (v * 10 + (c - 48)) (at + 1) rest) (cond (eqb c 10) (Some (v, at + 1)) None)

-- A count is one or more decimal digits, leading zeros allowed; its line ends there.
unfoldable pub count : (s : List ℕ) (at : ℕ) → Option (ℕ × ℕ)
count s at = cond (digit (get_or s at 0)) (count_from 0 at (drop at s)) None

-- The next line that is no comment, as a text and a count.
unfoldable pub counted : (s : List ℕ) (at : ℕ) (text : List ℕ) → Option (ℕ × ℕ)
counted s at text = and_then (line s at text) λ i. count s i
