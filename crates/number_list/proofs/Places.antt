-- Numbers put one behind the other.
--     sets_over    from the first place on: over the start, as far as there is room
-- Assumes nothing.
use mathlib.Core.List.{List, [], ◌∷◌, ◌++◌}
use mathlib.Core.Path.{◌≡◌, refl, sym, ap, ◌∙◌}
use Prim.Native.Nat.{ℕ, suc}
use lib.IntN.{ℤ}
use lib.ListN.{length, set}
use lib.Seq.{take-nil, sets}
use Rattle.number_list.specs.Numbers.{over}

sets-none : (i : ℕ) (zs : List ℤ) → sets [] i zs ≡ []
sets-none i [] = refl
sets-none i (z ∷ zs) = sets-none (suc i) zs

sets_behind : (y : ℤ) (ys : List ℤ) (i : ℕ) (zs : List ℤ) → sets (y ∷ ys) (suc i) zs ≡ y ∷ sets ys i zs
sets_behind y ys i [] = refl
sets_behind y ys i (z ∷ zs) = sets_behind y (set ys i z) (suc i) zs

pub sets_over : (zs ys : List ℤ) → sets ys 0 zs ≡ over zs ys
sets_over [] ys = sym (ap (λ (l : List ℤ). l ++ ys) (take-nil (length ys)))
sets_over (z ∷ zs) [] = sets-none 0 (z ∷ zs)
sets_over (z ∷ zs) (y ∷ ys) = sets_behind z ys 0 zs ∙ ap (λ (l : List ℤ). z ∷ l) (sets_over zs ys)
