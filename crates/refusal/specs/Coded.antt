-- The code of an answer, by which a proof tells answers apart. Definitions only; no public promise cites it.
use Rattle.std.specs.Prelude.{◌≡◌, ℕ, ◌⊎◌, refl}
use Rattle.std.specs.Coded.{Coded, code_by, coded×, coded⊎, coded_ℕ}
use mathlib.Core.Logic.{inl, inr}
use Rattle.refusal.specs.Limit.{Answer, gives, refused}

module _ {A : Type 0} where
  abbrev pub split : Answer A → A ⊎ (ℕ × ℕ)
  split (gives a) = inl a
  split (refused n p) = inr (n, p)

  abbrev pub join : A ⊎ (ℕ × ℕ) → Answer A
  join (inl a) = gives a
  join (inr p) = refused p.0 p.1

  pub join-split : (v : Answer A) → join (split v) ≡ v
  join-split (gives a) = refl
  join-split (refused n p) = refl

  abbrev pub coded_answer : Coded A → Coded (Answer A)
  coded_answer a = code_by (A ⊎ (ℕ × ℕ)) (coded⊎ a (coded× coded_ℕ coded_ℕ)) split join join-split
