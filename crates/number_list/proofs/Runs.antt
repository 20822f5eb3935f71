-- Laws of words and lines, character by character.
--     word-first, line-first    they end at the first character that ends them, or with the text
--     word-most, line-most      they are no longer than the text
--     word-some                 what begins with a character of a word begins with a word
--     line-some                 what begins with no line feed has a line
-- Assumes nothing.
use borrow.Author.Tests.{ne_eqb}
use Rattle.std.proofs.Common.{◌≡◌, refl, ℕ, suc, ◌+◌, ◌<◌, ◌≤◌, Bool, true, false, cond, not, eqb, ltb, List, [], ◌∷◌, length, arith, Some, None}
use Rattle.std.specs.List.{position, position_or_len}
use Rattle.std.specs.Option.{unwrap_or}
use Rattle.std.proofs.lemmas.List.Recursion.{is_position_or_len}
use Rattle.number_list.specs.Inner.{is_word, word_length, line_length}

-- ---- the first place, or the length
most : (b : Bool) {n m : ℕ} → n ≤ m → cond b (1 + n) 0 ≤ suc m
most true h = omega arith
most false h = omega arith

within : (p : ℕ → Bool) (s : List ℕ) → position_or_len p s ≤ length s
within p [] = omega arith
within p (c ∷ cs) = most (not (p c)) (within p cs)

or_length : (k n : ℕ) → k ≤ n → unwrap_or (cond (ltb k n) (Some k) None) n ≡ k
or_length k n h = grind arith

pub first-or-length : (p : ℕ → Bool) (s : List ℕ) → unwrap_or (position p s) (length s) ≡ position_or_len p s
first-or-length p s = or_length (position_or_len p s) (length s) (within p s)

word-none : word_length [] ≡ 0
unfolding word_length
word-none = refl

word-step : (c : ℕ) (cs : List ℕ) → word_length (c ∷ cs) ≡ cond (not (is_word c)) 0 (1 + word_length cs)
unfolding word_length
word-step c cs = grind arith

pub word-first : (s : List ℕ) → word_length s ≡ position_or_len (λ c. not (is_word c)) s
word-first = is_position_or_len word_length (λ c. not (is_word c)) word-none word-step

line-none : line_length [] ≡ 0
unfolding line_length
line-none = refl

line-step : (c : ℕ) (cs : List ℕ) → line_length (c ∷ cs) ≡ cond (eqb c 10) 0 (1 + line_length cs)
unfolding line_length
line-step c cs = grind arith

pub line-first : (s : List ℕ) → line_length s ≡ position_or_len (λ c. eqb c 10) s
line-first = is_position_or_len line_length (λ c. eqb c 10) line-none line-step

pub word-most : (s : List ℕ) → word_length s ≤ length s
word-most s = rw (word-first s) (within _ s)

pub line-most : (s : List ℕ) → line_length s ≤ length s
line-most s = rw (line-first s) (within _ s)

-- ---- where there are some
module _ {s : List ℕ} {c : ℕ} {cs : List ℕ} (e : s ≡ c ∷ cs) where
  pub word-some : is_word c ≡ true → 0 < word_length s
  unfolding word_length
  word-some p = rw (e, p) (omega arith)

  pub line-some : (c ≡ 10 → ⊥) → 0 < line_length s
  unfolding line_length
  line-some n = rw (e, ne_eqb _ _ n) (omega arith)
