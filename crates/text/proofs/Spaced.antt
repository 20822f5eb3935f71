-- Laws of numbers with spaces behind them.
--     spaced-more    one number more
-- Assumes nothing.
use mathlib.Core.List.{List, [], ◌∷◌, ◌++◌, append_assoc, append-nil}
use mathlib.Core.Path.{◌≡◌, refl, sym, ap, ◌∙◌}
use Prim.Native.Nat.{ℕ, ◌+◌, ◌<◌}
use native.Mathlib.Numerals.{add-one}
use lib.IntN.{ℤ, pos}
use lib.ListN.{length, take, get_or}
use lib.Seq.{take-suc}
use Rattle.text.specs.Text.{signed_decimal, space, spaced}

spaced-append : (xs ys : List ℤ) → spaced (xs ++ ys) ≡ spaced xs ++ spaced ys
unfolding spaced
spaced-append [] ys = refl
spaced-append (x ∷ xs) ys = ap (λ (t : List ℕ). (signed_decimal x ++ space) ++ t) (spaced-append xs ys) ∙ sym (append_assoc (signed_decimal x ++ space) (spaced xs) (spaced ys))

spaced-one : (z : ℤ) → spaced (z ∷ []) ≡ signed_decimal z ++ space
unfolding spaced
spaced-one z = append-nil (signed_decimal z ++ space)

pub spaced-more : (zs : List ℤ) (i : ℕ) {z : ℤ} → i < length zs → z ≡ get_or zs i (pos 0) → (spaced (take i zs) ++ signed_decimal z) ++ space ≡ spaced (take (i + 1) zs)
spaced-more zs i {z} h e =
    let z' = get_or zs i (pos 0) in
    append_assoc (spaced (take i zs)) (signed_decimal z) space
    ∙ ap (λ (y : ℤ). spaced (take i zs) ++ (signed_decimal y ++ space)) e
    ∙ ap (λ (t : List ℕ). spaced (take i zs) ++ t) (sym (spaced-one z'))
    ∙ sym (spaced-append (take i zs) (z' ∷ []))
    ∙ ap spaced (sym (take-suc zs i (pos 0) h))
    ∙ ap (λ (k : ℕ). spaced (take k zs)) (sym (add-one i))
