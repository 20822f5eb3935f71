-- Laws of what a text says, piece by piece.
--     feed     at a line feed
--     blank    at a space
--     hash     at a comment, which lasts to the end of its line
--     word     at a word
--     past     at the end
-- Assumes nothing.
use mathlib.Core.Bool.{Bool, true, false}
use mathlib.Core.List.{List, [], ◌∷◌, ◌++◌, append-nil, append_assoc}
use mathlib.Core.Path.{◌≡◌, refl, sym, ap, ◌∙◌}
use Prim.Native.Nat.{ℕ, zero, suc, ◌+◌, ◌<◌}
use native.Mathlib.Numerals.{add-one}
use native.Mathlib.Omega.{arith}
use lib.Dec.{eqb}
use lib.IntN.{ℤ}
use lib.ListN.{length, take, drop}
use Rattle.std.specs.Prelude.{Option}
use Rattle.number_list.specs.Numbers.{Reading, end, number_of, said, ended, reading}
use Rattle.number_list.specs.Inner.{is_word, word_length, line_length}
use Rattle.number_list.proofs.Runs.{word-some}

-- ---- at one character
module _ (line : ℕ) (word : List ℕ) (c : ℕ) (cs : List ℕ) where
  at-feed : (comment : Bool) → eqb c 10 ≡ true → reading comment line word (c ∷ cs) ≡ ended line word (reading false (suc line) [] cs)
  unfolding reading
  at-feed comment e = rw e refl

  in-comment : eqb c 10 ≡ false → reading true line word (c ∷ cs) ≡ reading true line [] cs
  unfolding reading
  in-comment e = rw e refl

  at-hash : eqb c 10 ≡ false → eqb c 35 ≡ true → reading false line word (c ∷ cs) ≡ ended line word (reading true line [] cs)
  unfolding reading
  at-hash e f = rw (e, f) refl

  at-space : eqb c 10 ≡ false → eqb c 35 ≡ false → eqb c 32 ≡ true → reading false line word (c ∷ cs) ≡ ended line word (reading false line [] cs)
  unfolding reading
  at-space e f g = rw (e, f, g) refl

  in-word : eqb c 10 ≡ false → eqb c 35 ≡ false → eqb c 32 ≡ false → reading false line word (c ∷ cs) ≡ reading false line (word ++ (c ∷ [])) cs
  unfolding reading
  in-word e f g = rw (e, f, g) refl

-- ---- inside a comment
comment-step : (line c : ℕ) (cs : List ℕ) (b : Bool) → eqb c 10 ≡ b → reading true line [] cs ≡ reading false line [] (drop (line_length cs) cs) → reading true line [] (c ∷ cs) ≡ reading false line [] (drop (line_length (c ∷ cs)) (c ∷ cs))
unfolding line_length
comment-step line c cs true e ih = rw e (at-feed line [] c cs true e ∙ sym (at-feed line [] c cs false e))
comment-step line c cs false e ih = rw e (in-comment line [] c cs e ∙ ih)

-- A comment says what is said from the end of its line on.
comment : (line : ℕ) (s : List ℕ) → reading true line [] s ≡ reading false line [] (drop (line_length s) s)
unfolding reading line_length
comment line [] = refl
comment line (c ∷ cs) = comment-step line c cs (eqb c 10) refl (comment line cs)

-- ---- inside a word
-- Characters that may go on say what they say with the rest of their word, and what is said behind it.
abbrev Goes : (line : ℕ) (word s : List ℕ) → Type 0
Goes line word s = reading false line word s ≡ ended line (word ++ take (word_length s) s) (reading false line [] (drop (word_length s) s))

stops : (line : ℕ) (word s : List ℕ) (behind : Reading) → word_length s ≡ 0 → ((w : List ℕ) → reading false line w s ≡ ended line w behind) → Goes line word s
stops line word s behind z p = p word ∙ ap (ended line word) (sym (p [])) ∙ rw (z, append-nil word) refl

module _ (line : ℕ) (word : List ℕ) (c : ℕ) (cs : List ℕ) where
  no_word : is_word c ≡ false → word_length (c ∷ cs) ≡ 0
  unfolding word_length
  no_word e = rw e refl

  one_more : is_word c ≡ true → word_length (c ∷ cs) ≡ suc (word_length cs)
  unfolding word_length
  one_more e = rw e refl

  word-step : (p q r : Bool) → eqb c 10 ≡ p → eqb c 35 ≡ q → eqb c 32 ≡ r → Goes line (word ++ (c ∷ [])) cs → Goes line word (c ∷ cs)
  unfolding is_word
  word-step true q r e f g ih = stops line word (c ∷ cs) _ (no_word (rw e refl)) (λ w. at-feed line w c cs false e)
  word-step false true r e f g ih = stops line word (c ∷ cs) _ (no_word (rw (e, f) refl)) (λ w. at-hash line w c cs e f)
  word-step false false true e f g ih = stops line word (c ∷ cs) _ (no_word (rw (e, f, g) refl)) (λ w. at-space line w c cs e f g)
  word-step false false false e f g ih =
      in-word line word c cs e f g ∙ ih ∙ rw (one_more (rw (e, f, g) refl), append_assoc word (c ∷ []) (take (word_length cs) cs)) refl

goes : (line : ℕ) (word s : List ℕ) → Goes line word s
unfolding reading word_length
goes line word [] = rw (append-nil word) refl
goes line word (c ∷ cs) = word-step line word c cs (eqb c 10) (eqb c 35) (eqb c 32) refl refl refl (goes line (word ++ (c ∷ [])) cs)

some : (line n : ℕ) (s : List ℕ) (behind : Reading) → 0 < n → 0 < length s → ended line (take n s) behind ≡ said line (number_of (take n s)) behind
some line zero s behind h k = absurd (omega arith)
some line (suc n) [] behind h k = absurd (omega arith)
some line (suc n) (c ∷ cs) behind h k = refl

-- ---- what a text says, by its first character
module _ (line : ℕ) {s : List ℕ} {c : ℕ} {cs : List ℕ} (e : s ≡ c ∷ cs) where
  here : (b : Bool) → reading b line [] s ≡ reading b line [] (c ∷ cs)
  here b = ap (reading b line []) e

  -- a test of the character
  test : (k : ℕ) {n : ℕ} → c ≡ n → eqb c k ≡ eqb n k
  test k p = ap (λ (n : ℕ). eqb n k) p

  pub feed : c ≡ 10 → reading false line [] s ≡ reading false (line + 1) [] cs
  feed p = here false ∙ at-feed line [] c cs false (test 10 p) ∙ rw (add-one line) refl

  pub blank : c ≡ 32 → reading false line [] s ≡ reading false line [] cs
  blank p = here false ∙ at-space line [] c cs (test 10 p) (test 35 p) (test 32 p)

  opened : c ≡ 35 → reading false line [] s ≡ reading true line [] s
  opened p = here false ∙ at-hash line [] c cs (test 10 p) (test 35 p) ∙ sym (in-comment line [] c cs (test 10 p)) ∙ sym (here true)

  pub hash : {n : ℕ} {behind : List ℕ} → c ≡ 35 → n ≡ line_length s → behind ≡ drop n s → reading false line [] s ≡ reading false line [] behind
  hash p l d = opened p ∙ comment line s ∙ rw (d, l) refl

  pub word : {n : ℕ} {w behind : List ℕ} {o : Option ℤ} → is_word c ≡ true → n ≡ word_length s → w ≡ take n s → behind ≡ drop n s → number_of w ≡ o → reading false line [] s ≡ said line o (reading false line [] behind)
  word p l t d f = goes line [] s ∙ some line (word_length s) s _ (word-some e p) (omega (arith, ap length e)) ∙ rw (← f, t, d, l) refl

pub past : (line : ℕ) (s : List ℕ) → length s ≡ 0 → reading false line [] s ≡ end
unfolding reading
past line [] h = refl
past line (c ∷ cs) h = absurd (omega arith)
