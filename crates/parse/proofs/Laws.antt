-- Laws of figures, one by one.
--     minus       the test of a word's first character
--     none        no figures
--     first       figures from the first on
--     more        one more figure
--     stopped     a character that is none, or a figure behind too large a number
--     all         the last figure
-- Assumes nothing.
use borrow.Author.Tests.{lt-ltb, le-ltb}
use Rattle.std.proofs.Common.{◌≡◌, refl, sym, ap, ◌∙◌, ℕ, suc, ◌+◌, ◌-◌, ◌*◌, ◌<◌, ◌≤◌, Bool, true, false, cond, ◌&&◌, ◌⊎◌, inl, inr, List, [], ◌∷◌, length, get_or, take, drop, eqb, nat_eq, add-one, arith, drop-cons, Option, Some, None, ℤ}
use Rattle.std.specs.Char.{is_ascii_digit}
use Rattle.std.specs.Cmp.Lexicographic.{pointwise}
use lib.Seq.{drop-length}
use Rattle.parse.specs.Parse.{has_minus, with_sign, figures_from, figures}

abbrev none_ℤ : Option ℤ
none_ℤ = None

and-true : (b : Bool) → b && true ≡ b
and-true true = refl
and-true false = refl

pub minus : (s : List ℕ) → has_minus s ≡ pointwise nat_eq (take 1 s) (45 ∷ [])
unfolding has_minus
minus [] = refl
minus (c ∷ cs) = sym (and-true (eqb c 45))

pub none : (negative : Bool) (s : List ℕ) → length s ≡ 0 → figures negative s ≡ None
unfolding figures
none negative [] h = refl
none negative (c ∷ cs) h = absurd (omega arith)

pub first : (negative : Bool) (s : List ℕ) → (length s ≡ 0 → ⊥) → figures_from negative 0 s ≡ figures negative s
unfolding figures
first negative [] h = absurd (h refl)
first negative (c ∷ cs) h = refl

module _ (negative : Bool) (s : List ℕ) (i n : ℕ) (h : i < length s) where
  here : figures_from negative n (drop i s) ≡ figures_from negative n (get_or s i 0 ∷ drop (suc i) s)
  here = ap (figures_from negative n) (drop-cons s i 0 h)

  pub more : is_ascii_digit (get_or s i 0) ≡ true → n < 1000000000000000 → figures_from negative n (drop i s) ≡ figures_from negative (n * 10 + (get_or s i 0 - 48)) (drop (i + 1) s)
  unfolding figures_from
  more f l = here ∙ rw (f, lt-ltb n 1000000000000000 l, add-one i) refl

  pub stopped : (is_ascii_digit (get_or s i 0) ≡ false) ⊎ (1000000000000000 ≤ n) → figures_from negative n (drop i s) ≡ None
  unfolding figures_from
  stopped (inl f) = here ∙ rw f refl
  stopped (inr l) = here ∙ rw (le-ltb n 1000000000000000 l) (const (is_ascii_digit (get_or s i 0)))
    where
      const : (b : Bool) → cond b none_ℤ none_ℤ ≡ none_ℤ
      const true = refl
      const false = refl

pub all : (negative : Bool) (s : List ℕ) (n : ℕ) → figures_from negative n (drop (length s) s) ≡ Some (with_sign negative n)
unfolding figures_from
all negative s n = ap (figures_from negative n) (drop-length s)
