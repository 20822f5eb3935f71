-- The numbers of an answer fit the bits that they are packed into, where those of its questions do.
--     FitsQuestion, FitAll      a question fits; all of a list do
--     fit_append, fit-each      two lists of them; the same question of each item
--     answered-fits             so does what is answered
-- Assumes nothing.
use mathlib.Core.Bool.{Bool, true, false}
use mathlib.Core.List.{List, [], ◌∷◌, ◌++◌}
use mathlib.Core.Path.{◌≡◌, refl, sym, subst}
use Prim.Native.Nat.{ℕ, zero, suc, ◌^◌, ◌<◌}
use native.Mathlib.Omega.{arith}
use Rattle.refusal.specs.Questions.{Question, answered, of_each}
use Rattle.refusal.proofs.Asking.{stopped, through}
use Rattle.pack.proofs.Unpack.{Fits}

abbrev pub FitsQuestion : Question → Type 0
FitsQuestion q = (q.number < 2 ^ 8) × (q.place < 2 ^ 32)

abbrev pub FitAll : List Question → Type 0
FitAll [] = Unit {0}
FitAll (q ∷ qs) = FitsQuestion q × FitAll qs

pub fit_append : (a b : List Question) → FitAll a → FitAll b → FitAll (a ++ b)
fit_append [] b f g = g
fit_append (q ∷ a) b f g = (f.0, fit_append a b f.1 g)

pub fit-each : (q : ℕ → Question) (n : ℕ) → ((i : ℕ) → i < n → FitsQuestion (q i)) → FitAll (of_each q n)
unfolding of_each
fit-each q zero f = tt
fit-each q (suc n) f = fit_append (of_each q n) (q n ∷ []) (fit-each q n (λ i l. f i (omega arith))) (f n (omega arith), tt)

module _ {A : Type 0} (P : A → Type 0) where
  pub answered-fits : (x : A) (qs : List Question) → FitAll qs → P x → Fits P (answered qs x)
  unfolding answered
  answered-fits x [] f h = h
  answered-fits x (q ∷ qs) f h = go q.holds refl (answered-fits x qs f.1 h)
    where
      go : (b : Bool) → q.holds ≡ b → Fits P (answered qs x) → Fits P (answered (q ∷ qs) x)
      go true e r = subst (Fits P) (sym (through x q qs e)) r
      go false e r = subst (Fits P) (sym (stopped x q qs e)) f.0
