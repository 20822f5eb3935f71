-- Comments, from word to line feed.
--     no_word, cut, feed, space    the word `comment` is not there, or what stands behind it
--     passed      from the word that begins a comment, to behind it
--     Inside      what the loop to the line feed keeps: a comment goes on at the place that was come to
--     inside, fed, unfed    a character of a comment, its line feed, or the end of the file
--     Skipping    what the loop over comments keeps: those that are left, from the place that was come to
--     begins      at the start
--     word        behind a comment
--     over        the start of a line that is no comment, or the end of the file
-- Assumes nothing.
use Rattle.std.specs.Prelude.{Option, Some, None}
use mathlib.Core.Bool.{Bool, true, false, cond, not, ◌||◌, ◌&&◌, and-eq-true_iff}
use Rattle.std.specs.Bool.{then_some}
use mathlib.Core.List.{List, [], ◌∷◌, ◌++◌}
use mathlib.Core.Path.{◌≡◌, refl, sym, ap, ◌∙◌}
use Prim.Native.Nat.{ℕ, ◌+◌, ◌<◌, ◌≤◌}
use native.Mathlib.Decide.{dec_lt}
use native.Mathlib.Omega.{arith}
use borrow.Author.Tests.{ltb-true, eqb-true, le-ltb, lt-ltb, ne_eqb}
use lib.Dec.{ltb, eqb}
use lib.ListN.{length, get_or, drop, drop_of_length-le}
use Rattle.ply_header.specs.Text.{bytes, and_then, behind, stands, comment, past, past_comments}
use Rattle.ply_header.specs.Inner.{comment_word}
use Rattle.ply_header.proofs.Texts.{more}

-- ---- the word, and what stands behind it
-- A text stands at a place if its two parts stand there, one behind the other.
joined_step : (p q : Bool) (x y : Option ℕ) (f : ℕ → Option ℕ) → x ≡ and_then y f → cond p (cond q x None) None ≡ and_then (cond p (cond q y None) None) f
unfolding and_then
joined_step true true x y f e = e
joined_step true false x y f e = refl
joined_step false q x y f e = refl

joined : (s : List ℕ) (at : ℕ) (a b : List ℕ) → behind s at (a ++ b) ≡ and_then (behind s at a) (λ i. behind s i b)
unfolding behind and_then
joined s at [] b = refl
joined s at (c ∷ a) b = joined_step (ltb at (length s)) (eqb (get_or s at 0) c) _ _ _ (joined s (at + 1) a b)

-- A comment, by the place behind the word.
told : (s : List ℕ) (at : ℕ) (f : Option ℕ) → behind s at (bytes "comment") ≡ f → comment s at ≡ stands (and_then f (λ i. behind s i (10 ∷ []))) || stands (and_then f (λ i. behind s i (32 ∷ [])))
unfolding comment
told s at f e = rw (joined s at (bytes "comment") (10 ∷ []), joined s at (bytes "comment") (32 ∷ []), e)

pub no_word : (s : List ℕ) (at : ℕ) → behind s at (bytes "comment") ≡ None → None ≡ comment_word s at
unfolding and_then comment_word
no_word s at e = rw (told s at None e)

module _ (s : List ℕ) (at i : ℕ) (e : behind s at (bytes "comment") ≡ Some i) where
  pub cut : length s ≤ i → None ≡ comment_word s at
  unfolding behind and_then comment_word
  cut h = rw (told s at (Some i) e, le-ltb i (length s) h)

  pub feed : i < length s → get_or s i 0 ≡ 10 → Some i ≡ comment_word s at
  unfolding behind and_then comment_word
  feed h k = sym (rw (told s at (Some i) e, lt-ltb i (length s) h, k) e)

  pub space : i < length s → (get_or s i 0 ≡ 10 → ⊥) → then_some (eqb (get_or s i 0) 32) i ≡ comment_word s at
  unfolding behind and_then comment_word
  space h k = rw (told s at (Some i) e, lt-ltb i (length s) h, ne_eqb (get_or s i 0) 10 k) (go (eqb (get_or s i 0) 32))
    where
      go : (b : Bool) → then_some b i ≡ cond (stands (cond b (Some (i + 1)) None)) (behind s at (bytes "comment")) None
      go true = sym e
      go false = refl

-- ---- from the word to behind it
if-step : (b : Bool) (f : Option ℕ) → (f ≡ None → b ≡ false) → b ≡ stands (cond b f None)
if-step true (Some i) p = refl
if-step true None p = p refl
if-step false f p = refl

-- A comment begins where the word is found.
if_word : (s : List ℕ) (at : ℕ) → comment s at ≡ stands (comment_word s at)
unfolding and_then comment_word
if_word s at = if-step (comment s at) (behind s at (bytes "comment")) (told s at None)

sure : (b : Bool) (f : Option ℕ) (j : ℕ) → cond b f None ≡ Some j → (b ≡ true) × (f ≡ Some j)
sure true f j e = (refl, e)
sure false f j e = let z : ◌≡◌ {A = ℕ} 0 1 = cc in absurd (omega arith)

-- A text that stands at a place: its first character, and the others.
first : (s : List ℕ) (i c : ℕ) (text : List ℕ) (j : ℕ) → behind s i (c ∷ text) ≡ Some j → (i < length s) × (get_or s i 0 ≡ c) × (behind s (i + 1) text ≡ Some j)
unfolding behind
first s i c text j e =
    let a = sure (ltb i (length s)) _ j e in
    let b = sure (eqb (get_or s i 0) c) _ j a.1 in
    (ltb-true i (length s) a.0, eqb-true (get_or s i 0) c b.0, b.1)

abbrev no-feed : List ℕ → Bool
no-feed [] = true
no-feed (c ∷ text) = not (eqb c 10) && no-feed text

-- The line feed of a comment is not in a text that has none, and so it is searched from behind that text.
through : (s text : List ℕ) (i j : ℕ) → no-feed text ≡ true → behind s i text ≡ Some j
    → (i ≤ j) × (i ≤ length s → j ≤ length s) × (past s true i (drop i s) ≡ past s true j (drop j s))
unfolding behind past
through s [] i j n e = let same : i ≡ j = cc in (omega arith, (λ h. omega arith), ap (λ (k : ℕ). past s true k (drop k s)) same)
through s (c ∷ text) i j n e =
    let f = first s i c text j e in
    let m = (and-eq-true_iff (not (eqb c 10)) (no-feed text)).0 n in
    let t = through s text (i + 1) j m.1 f.2 in
    (omega arith, (λ _. t.1 (omega (arith, f.0))), rw (more s i f.0, f.1) (ap (λ (b : Bool). past s b (i + 1) (drop (i + 1) s)) m.0 ∙ t.2))

pub passed : (s : List ℕ) (i j : ℕ) → comment_word s i ≡ Some j → (i < j) × (j ≤ length s) × (past s false i (drop i s) ≡ past s true j (drop j s))
unfolding comment_word past
passed s i j e =
    let f = first s i 99 (bytes "omment") j (sure (comment s i) _ j e).1 in
    let t = through s (bytes "omment") (i + 1) j refl f.2 in
    (omega arith, t.1 (omega (arith, f.0)), rw (more s i f.0, if_word s i ∙ ap stands e) t.2)

-- ---- to the line feed
pub record Inside (s : List ℕ) (at i : ℕ) : Type 0 where
  pub low : at ≤ i
  pub same : past s true at (drop at s) ≡ past s true i (drop i s)

module _ {s : List ℕ} {at i : ℕ} (r : Inside s at i) where
  pub inside : i < length s → (get_or s i 0 ≡ 10 → ⊥) → Inside s at (i + 1)
  unfolding past
  inside h n =
      record { low = omega (arith, r.low); same = r.same ∙ rw (more s i h) (ap (λ (b : Bool). past s (not b) (i + 1) (drop (i + 1) s)) (ne_eqb (get_or s i 0) 10 n)) }

  pub fed : i < length s → get_or s i 0 ≡ 10 → past s true at (drop at s) ≡ past s false (i + 1) (drop (i + 1) s)
  unfolding past
  fed h e = r.same ∙ rw (more s i h, e)

  pub unfed : i ≡ length s → past s true at (drop at s) ≡ past s false (length s) (drop (length s) s)
  unfolding past
  unfed e = let h : length s ≤ length s = omega arith in r.same ∙ rw (e, drop_of_length-le s h)

-- ---- from comment to comment
pub record Skipping (s : List ℕ) (at i : ℕ) : Type 0 where
  pub same : past_comments s at ≡ past s false i (drop i s)

pub begins : (s : List ℕ) (at : ℕ) → Skipping s at at
unfolding past_comments
begins s at = record { same = refl }

module _ {s : List ℕ} {at i : ℕ} (r : Skipping s at i) where
  pub word : {j k : ℕ} → comment_word s i ≡ Some j → past s true j (drop j s) ≡ past s false k (drop k s) → Skipping s at k
  word {j} e same = record { same = r.same ∙ (passed s i j e).2 ∙ same }

  pub over : comment_word s i ≡ None → i ≡ past_comments s at
  unfolding past
  over k = go (dec_lt i (length s))
    where
      go : Dec (i < length s) → i ≡ past_comments s at
      go (yes h) = sym (r.same ∙ rw (more s i h, if_word s i ∙ ap stands k))
      go (no n) = let h : length s ≤ i = omega arith in sym (r.same ∙ rw (drop_of_length-le s h))
