-- Numbers in base ten, from text. Definitions only. A character is its ASCII code.
use Rattle.std.specs.Prelude.{Bool, true, false, cond, List, [], ◌∷◌, ℕ, ◌+◌, ◌-◌, ◌*◌, eqb, ltb, ℤ, pos, neg_ℤ, drop, Option, Some, None}
use Rattle.std.specs.Char.{is_ascii_digit}

-- A number with its sign.
abbrev pub with_sign : (negative : Bool) → ℕ → ℤ
with_sign negative n = cond negative (neg_ℤ (pos n)) (pos n)

-- Figures behind others that say n. A figure counts only behind a number below 10 ^ 15: no number has more than 16 figures, zeros in
-- front not counted.
unfoldable pub figures_from : (negative : Bool) → ℕ → List ℕ → Option ℤ
figures_from negative n [] = Some (with_sign negative n)
figures_from negative n (c ∷ cs) = cond (is_ascii_digit c) (cond (ltb n 1000000000000000) (figures_from negative (n * 10 + (c - 48)) cs) None) None

-- One figure or more.
unfoldable pub figures : (negative : Bool) → List ℕ → Option ℤ
figures negative [] = None
figures negative (c ∷ cs) = figures_from negative 0 (c ∷ cs)

-- Does a word begin with a minus sign? 45 is `-`.
unfoldable pub has_minus : List ℕ → Bool
has_minus [] = false
has_minus (c ∷ cs) = eqb c 45

-- A word: figures, with a minus sign before them or none.
unfoldable pub number_in : List ℕ → Option ℤ
number_in s = cond (has_minus s) (figures true (drop 1 s)) (figures false s)
