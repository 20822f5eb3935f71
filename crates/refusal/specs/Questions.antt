-- Questions put in turn, and what a call says. Definitions only.
use Rattle.std.specs.Prelude.{Bool, true, false, List, [], ◌∷◌, ◌++◌, ℕ, zero, suc}
use Rattle.refusal.specs.Limit.{Answer, gives, refused}

-- A question: its number in document 01, the place that a refusal names, and whether the answer is "yes".
pub record Question : Type 0 where
  pub number : ℕ
  pub place : ℕ
  pub holds : Bool

-- Question n. The place is 0 unless stated.
infix 4 ◌asks◌
abbrev pub ◌asks◌ : ℕ → Bool → Question
n asks b = record { number = n; place = 0; holds = b }

-- Question n of an item, whose number is the place.
abbrev pub asks_of : (n item : ℕ) → Bool → Question
asks_of n i b = record { number = n; place = i; holds = b }

-- The first "no" ends the call with its number. A call with no "no" is never refused: it gives its value.
unfoldable pub answered : {A : Type 0} → List Question → A → Answer A
answered [] a = gives a
answered (q ∷ qs) a = elim q.holds [ true ↦ answered qs a | false ↦ refused q.number q.place ]

-- The same question of each item below n, the lowest first.
unfoldable pub of_each : (ℕ → Question) → ℕ → List Question
of_each q zero = []
of_each q (suc n) = of_each q n ++ (q n ∷ [])
