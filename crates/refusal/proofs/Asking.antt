-- Laws of questions put in turn.
--     stopped, through    the first question is answered no, or yes
--     passed-head         all are answered yes, so the first is
--     first-append        two lists of questions, one behind the other
--     asked-first         a call's value comes behind all its questions
--     refuses, passes     so it is refused, or gives its value, as the questions alone say
--     asked-refused, asked-given   and back
--     each_more, each-no  the same question of each item, as a loop asks it
--     each-passed         all items pass, so each does
-- Assumes nothing.
use mathlib.Core.Bool.{Bool, true, false}
use mathlib.Core.List.{List, [], ◌∷◌, ◌++◌, append-nil}
use mathlib.Core.Path.{◌≡◌, refl, sym, ap, ◌∙◌}
use Prim.Native.Nat.{ℕ, zero, suc, ◌+◌, ◌<◌}
use native.Mathlib.Nat.{not-suc-le-zero}
use native.Mathlib.Decide.{dec_lt}
use native.Mathlib.Numerals.{add-one}
use native.Mathlib.Omega.{arith}
use Rattle.refusal.specs.Limit.{Answer, gives, refused}
use Rattle.refusal.specs.Questions.{Question, answered, of_each}
use Rattle.refusal.specs.Inner.{Passing, passed, asked}

module _ {A : Type 0} (a : A) (q : Question) (qs : List Question) where
  pub stopped : q.holds ≡ false → answered (q ∷ qs) a ≡ refused q.number q.place
  unfolding answered
  stopped h = rw h

  pub through : q.holds ≡ true → answered (q ∷ qs) a ≡ answered qs a
  unfolding answered
  through h = rw h

  pub passed-head : {b : A} → answered (q ∷ qs) a ≡ gives b → (q.holds ≡ true) × (answered qs a ≡ gives b)
  passed-head {b} = go q.holds refl
    where
      go : (t : Bool) → q.holds ≡ t → answered (q ∷ qs) a ≡ gives b → (q.holds ≡ true) × (answered qs a ≡ gives b)
      go true e h = (e, sym (through e) ∙ h)
      go false e h = let z : ◌≡◌ {A = ℕ} 0 1 = cc (stopped e) in absurd (omega arith)

-- What is said after first questions: it is said only where none of them is answered no.
abbrev pub and_then : {A B : Type 0} → Answer A → Answer B → Answer B
and_then (gives a) v = v
and_then (refused n p) v = refused n p

pub both-passed : {B : Type 0} {b : B} (v : Passing) (w : Answer B) → and_then v w ≡ gives b → (v ≡ passed) × (w ≡ gives b)
both-passed (gives a) w h = (refl, h)
both-passed (refused n p) w h = let z : ◌≡◌ {A = ℕ} 0 1 = cc in absurd (omega arith)

module _ {A : Type 0} (x : A) where
  pub first-append : (a b : List Question) → answered (a ++ b) x ≡ and_then (asked a) (answered b x)
  unfolding answered
  first-append [] b = refl
  first-append (q ∷ a) b = go q.holds refl (first-append a b)
    where
      go : (t : Bool) → q.holds ≡ t → answered (a ++ b) x ≡ and_then (asked a) (answered b x)
          → answered (q ∷ (a ++ b)) x ≡ and_then (asked (q ∷ a)) (answered b x)
      go true e ih = rw (through x q (a ++ b) e, through (tt {0}) q a e) ih
      go false e ih = rw (stopped x q (a ++ b) e, stopped (tt {0}) q a e)

  pub asked-first : (qs : List Question) → answered qs x ≡ and_then (asked qs) (gives x)
  unfolding answered
  asked-first qs = ap (λ (l : List Question). answered l x) (sym (append-nil qs)) ∙ first-append qs []

  pub refuses : {n p : ℕ} (qs : List Question) → asked qs ≡ refused n p → answered qs x ≡ refused n p
  refuses qs e = asked-first qs ∙ rw e

  pub passes : (qs : List Question) → asked qs ≡ passed → answered qs x ≡ gives x
  passes qs e = asked-first qs ∙ rw e

  pub asked-refused : {n p : ℕ} (qs : List Question) → answered qs x ≡ refused n p → asked qs ≡ refused n p
  asked-refused {n} {p} qs e = go (asked qs) (sym (asked-first qs) ∙ e)
    where
      go : (v : Passing) → and_then v (gives x) ≡ refused n p → v ≡ refused n p
      go (gives u) h = let z : ◌≡◌ {A = ℕ} 0 1 = cc in absurd (omega arith)
      go (refused m q) h = cc

  pub asked-given : {y : A} (qs : List Question) → answered qs x ≡ gives y → (asked qs ≡ passed) × (x ≡ y)
  asked-given {y} qs e = go (asked qs) (sym (asked-first qs) ∙ e)
    where
      go : (v : Passing) → and_then v (gives x) ≡ gives y → (v ≡ passed) × (x ≡ y)
      go (gives u) h = (refl, cc)
      go (refused m q) h = let z : ◌≡◌ {A = ℕ} 0 1 = cc in absurd (omega arith)

module _ (q : ℕ → Question) where
  pub each_none : asked (of_each q 0) ≡ passed
  unfolding answered of_each
  each_none = refl

  each-suc : (n : ℕ) → asked (of_each q (suc n)) ≡ and_then (asked (of_each q n)) (asked (q n ∷ []))
  unfolding of_each
  each-suc n = first-append tt (of_each q n) (q n ∷ [])

  pub each_more : (i : ℕ) → asked (of_each q i) ≡ passed → (q i).holds ≡ true → asked (of_each q (i + 1)) ≡ passed
  unfolding answered
  each_more i h e = rw (add-one i, each-suc i, h, e)

  pub each-no : (i n : ℕ) → i < n → asked (of_each q i) ≡ passed → (q i).holds ≡ false → asked (of_each q n) ≡ refused (q i).number (q i).place
  unfolding answered
  each-no i zero l h e = absurd (not-suc-le-zero l)
  each-no i (suc n) l h e = go (dec_lt i n) (each-no i n)
    where
      go : Dec (i < n) → (i < n → asked (of_each q i) ≡ passed → (q i).holds ≡ false → asked (of_each q n) ≡ refused (q i).number (q i).place)
          → asked (of_each q (suc n)) ≡ refused (q i).number (q i).place
      go (yes m) ih = rw (each-suc n, ih m h e)
      go (no m) ih = let same : n ≡ i = omega arith in rw (same, each-suc i, h, e)

  pub each-passed : (n : ℕ) → asked (of_each q n) ≡ passed → (i : ℕ) → i < n → (q i).holds ≡ true
  each-passed zero h i l = absurd (not-suc-le-zero l)
  each-passed (suc n) h i l =
      let both = both-passed (asked (of_each q n)) (asked (q n ∷ [])) (sym (each-suc n) ∙ h) in
      go (dec_lt i n) (each-passed n both.0 i) both.1
    where
      go : Dec (i < n) → (i < n → (q i).holds ≡ true) → asked (q n ∷ []) ≡ passed → (q i).holds ≡ true
      go (yes m) ih p = ih m
      go (no m) ih p = let same : i ≡ n = omega arith in ap (λ (k : ℕ). (q k).holds) same ∙ (passed-head tt (q n) [] p).0
