-- `number_list::read_list`: what is left of the text says what the whole text says. Assumes nothing.
use borrow.Author.Tests.{ne_eqb}
use Rattle.std.proofs.Common.{◌≡◌, refl, sym, ap, ◌∙◌, ℕ, true, w32, arith, rules, length}
use Rattle.std.proofs.Math.ListN.{set, length-set}
use Rattle.std.proofs.lemmas.Int.{to_z-of_z}
use Rattle.number_list.specs.Inner.{is_word}
use Rattle.number_list.proofs.Runs.{word-most, word-some, line-most, line-some}
use Rattle.number_list.proofs.Readings.{feed, blank, hash, word, past}
use Rattle.number_list.proofs.Turns.{begun, passed, taken, stopped, done}
use Rattle.number_list.proofs.read_list.Goals as goal

-- a character that is none of the three belongs to a word
here : (k : ℕ) → (k ≡ 10 → ⊥) → (k ≡ 35 → ⊥) → (k ≡ 32 → ⊥) → is_word k ≡ true
unfolding is_word
here k a b d = rw (ne_eqb _ _ a, ne_eqb _ _ b, ne_eqb _ _ d)

pub loop-c-init : goal.loop-c-init
loop-c-init c = (omega arith, omega arith, refl, begun _ _)

pub loop-c-preserved-in-10 : goal.loop-c-preserved-in-10
loop-c-preserved-in-10 c =
    let (e, less) = c.in-Some.ensures.cases in
    (omega arith, omega arith, c.loop-c.invariant.2, passed c.loop-c.invariant.3 (feed _ e c.in-10.is))

pub split_at-requires : goal.split_at-requires
split_at-requires c = rw c.line_length.ensures (line-most _)

pub loop-c-smaller-in-35 : goal.loop-c-smaller-in-35
loop-c-smaller-in-35 c =
    let (e, less) = c.in-Some.ensures.cases in
    let some = line-some e (λ n. omega arith) in
    omega (arith, c.line_length.ensures, c.split_at.ensures.back_len)

pub loop-c-preserved-in-35 : goal.loop-c-preserved-in-35
loop-c-preserved-in-35 c =
    let (e, less) = c.in-Some.ensures.cases in
    let cut = c.split_at.ensures in
    (omega (arith, cut.back_len), omega (arith, cut.back_len), c.loop-c.invariant.2, passed c.loop-c.invariant.3 (hash _ e c.in-35.is c.line_length.ensures cut.back))

pub loop-c-preserved-in-32 : goal.loop-c-preserved-in-32
loop-c-preserved-in-32 c =
    let (e, less) = c.in-Some.ensures.cases in
    (omega arith, omega arith, c.loop-c.invariant.2, passed c.loop-c.invariant.3 (blank _ e c.in-32.is))

pub split_at-requires-in_default-c : goal.split_at-requires-in_default-c
split_at-requires-in_default-c c = rw c.word_length.ensures (word-most _)

pub returns-in_default-number_of : goal.returns-in_default-number_of
returns-in_default-number_of c =
    let (e, less) = c.in-Some.ensures.cases in
    let is : is_word c.in-Some.c.now ≡ true = here _ (λ n. omega arith) (λ n. omega arith) (λ n. omega arith) in
    let cut = c.split_at-in_default-c.ensures in
    let says = word c.loop-c.line e is c.word_length.ensures cut.front cut.back (sym c.number_of.ensures ∙ c.in_default-number_of.is) in
    let t = stopped c.loop-c.invariant.3 says in
    record { answer = t.0; numbers = t.1 }

pub loop-c-smaller : goal.loop-c-smaller
loop-c-smaller c =
    let (e, less) = c.in-Some.ensures.cases in
    let is : is_word c.in-Some.c.now ≡ true = here _ (λ n. omega arith) (λ n. omega arith) (λ n. omega arith) in
    omega (arith, word-some e is, c.word_length.ensures, c.split_at-in_default-c.ensures.back_len)

pub loop-c-preserved : goal.loop-c-preserved
loop-c-preserved c =
    let (e, less) = c.in-Some.ensures.cases in
    let is : is_word c.in-Some.c.now ≡ true = here _ (λ n. omega arith) (λ n. omega arith) (λ n. omega arith) in
    let cut = c.split_at-in_default-c.ensures in
    let says = word c.loop-c.line e is c.word_length.ensures cut.front cut.back (sym c.number_of.ensures ∙ c.in-Some-number_of.is) in
    let some = word-some e is in
    let put = c.put.ensures ∙ ap (set c.loop-c.out c.loop-c.count) (to_z-of_z w32 c.in-Some-number_of.number (search rules)) in
    (omega (arith, cut.back_len), omega (arith, cut.back_len, c.word_length.ensures), ap length c.put.ensures ∙ length-set _ _ _ ∙ c.loop-c.invariant.2, taken c.loop-c.invariant.3 says put)

pub returns : goal.returns
returns c = let t = done c.loop-c.invariant.3 (past _ _ c.in_default.ensures.cases) in record { answer = t.0; numbers = t.1 }
