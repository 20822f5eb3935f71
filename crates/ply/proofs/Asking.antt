-- A loop that asks one question of each item, where the items lie at places.
--     Asking, ask-more   what it keeps
--     ask-no             the first "no" ends it
-- Assumes nothing.
use mathlib.Core.Bool.{true, false}
use mathlib.Core.Path.{◌≡◌, sym}
use Prim.Native.Nat.{ℕ, ◌+◌, ◌<◌, ◌≤◌}
use native.Mathlib.Omega.{arith}
use Rattle.refusal.specs.Limit.{refused}
use Rattle.refusal.specs.Questions.{Question, of_each}
use Rattle.refusal.specs.Inner.{passed, asked}
use Rattle.refusal.proofs.Asking.{each_more, each-no}

pub record Asking (q : ℕ → Question) (place : ℕ → ℕ) (n at k : ℕ) : Type 0 where
  pub low : k ≤ n
  pub is : at ≡ place k
  pub yes : asked (of_each q k) ≡ passed

module _ {q : ℕ → Question} {place : ℕ → ℕ} {n at k : ℕ} (a : Asking q place n at k) where
  pub ask-more : {next : ℕ} → k < n → (q k).holds ≡ true → next ≡ place (k + 1) → Asking q place n next (k + 1)
  ask-more h e i = record { low = omega arith; is = i; yes = each_more q k a.yes e }

  pub ask-no : k < n → (q k).holds ≡ false → refused (q k).number (q k).place ≡ asked (of_each q n)
  ask-no h e = sym (each-no q k n h a.yes e)
