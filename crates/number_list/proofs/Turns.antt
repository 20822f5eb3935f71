-- What is left to read, behind n numbers that were put into the lent ones, says what the whole text says.
--     begun      before the first turn
--     passed     what says nothing was passed
--     taken      a number was put
--     stopped    a wrong word
--     done       the end
-- Assumes nothing.
use mathlib.Core.List.{List}
use mathlib.Core.Path.{◌≡◌, refl, subst}
use Prim.Native.Nat.{ℕ, ◌+◌}
use native.Mathlib.Numerals.{add-one}
use lib.IntN.{ℤ}
use lib.ListN.{set}
use lib.Seq.{sets}
use Rattle.number_list.specs.declared.WrongWord.{WrongWord}
use Rattle.std.specs.Prelude.{Result, Ok, Err}
use Rattle.number_list.specs.Numbers.{Reading, number, wrong, end, reading_of, answer_from, numbers_in, over}
use Rattle.number_list.proofs.Places.{sets_over}

pub record Left (text : List ℕ) (old : List ℤ) (left : Reading) (n : ℕ) (out : List ℤ) : Type 0 where
  pub answer : answer_from n left ≡ answer_from 0 (reading_of text)
  pub numbers : sets out n (numbers_in left) ≡ over (numbers_in (reading_of text)) old

-- what the contract promises
abbrev Answered : (text : List ℕ) (old : List ℤ) → Result ℕ WrongWord → List ℤ → Type 0
Answered text old r out = (r ≡ answer_from 0 (reading_of text)) × (out ≡ over (numbers_in (reading_of text)) old)

pub begun : (text : List ℕ) (old : List ℤ) → Left text old (reading_of text) 0 old
begun text old = record { answer = refl; numbers = sets_over (numbers_in (reading_of text)) old }

module _ {text : List ℕ} {old : List ℤ} {left : Reading} {n : ℕ} {out : List ℤ} (before : Left text old left n out) where
  pub passed : {behind : Reading} → left ≡ behind → Left text old behind n out
  passed e = subst (λ (r : Reading). Left text old r n out) e before

  pub taken : {behind : Reading} {z : ℤ} {put : List ℤ} → left ≡ number z behind → put ≡ set out n z → Left text old behind (n + 1) put
  unfolding answer_from numbers_in
  taken e p = let b = passed e in rw (p, add-one n) (record { answer = b.answer; numbers = b.numbers })

  pub stopped : {line : ℕ} → left ≡ wrong line → Answered text old (Err (record { line = line })) out
  unfolding answer_from numbers_in
  stopped e = let b = passed e in (b.answer, b.numbers)

  pub done : left ≡ end → Answered text old (Ok n) out
  unfolding answer_from numbers_in
  done e = let b = passed e in (b.answer, b.numbers)
