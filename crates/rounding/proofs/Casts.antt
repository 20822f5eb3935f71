-- What `whole` does with the sum, in the machine's words.
--     sum-in       the sum may be cast
--     less-fits    3 × 2 ^ 51 may be taken away from it
--     whole-fits   the rest may be cast
--     result-is    and is the answer
-- Assumes nothing.
use Rattle.std.proofs.Common.{◌≡◌, true, T, leb, ℤ, pos, negsuc, ◌-ℤ◌, sym, ap, ◌∙◌, subst, arith, leb→le, w32, w64, SFits, to_z, of_z}
use lib.Ieee.{Float, binary64, in_signed, to_signed, add, le, lt}
use lib.Ieee.Fits.{and_l}
use mir.ValLaws.{to_z-of_z}
use Rattle.rounding.proofs.Sums.{shift, mid, as-i64}
use Rattle.rounding.proofs.Cases.{lowest, highest, sum_of, sum-value, sum-le, difference, ranged, in-range}
use Rattle.rounding.specs.Rounding.{in_range, whole_of, rounded_of, millimetres}

fits32 : (r : ℤ) → T (in_range r) → SFits w32 r
fits32 (pos n) t = let k = leb→le n 8191 t in record { sfits = omega arith }
fits32 (negsuc n) t = let k = leb→le n 8191 (and_l (leb n 8191) true t) in record { sfits = omega arith }

fits64 : (r : ℤ) → T (in_range r) → SFits w64 r
fits64 (pos n) t = let k = leb→le n 8191 t in record { sfits = omega arith }
fits64 (negsuc n) t = let k = leb→le n 8191 (and_l (leb n 8191) true t) in record { sfits = omega arith }

module _ (x : Float) (l : T (le lowest x)) (h : T (lt x highest)) where
  abbrev sum : ℤ
  sum = to_signed 63 (add binary64 x shift)

  cast : T (in_signed binary64 63 (add binary64 x shift)) × (sum ≡ pos (sum_of x))
  cast = as-i64 (add binary64 x shift) (sum_of x) (sum-le x l h) (sum-value x l h)

  pub sum-in : T (in_signed binary64 63 (add binary64 x shift))
  sum-in = cast.0

  within : T (in_range (whole_of x))
  within = ranged x l h

  -- the difference, as the code has it
  abbrev less : ℤ
  less = to_z w64 (of_z w64 sum) -ℤ pos mid

  less-is : less ≡ whole_of x
  less-is =
      ap (λ (z : ℤ). to_z w64 (of_z w64 z) -ℤ pos mid) cast.1
      ∙ ap (λ (z : ℤ). z -ℤ pos mid) (to_z-of_z w64 (pos (sum_of x)) (let k = sum-le x l h in record { sfits = omega arith }))
      ∙ difference x l h

  pub less-fits : SFits w64 less
  less-fits = subst (λ (z : ℤ). SFits w64 z) (sym less-is) (fits64 (whole_of x) within)

  whole_is : to_z w64 (of_z w64 less) ≡ whole_of x
  whole_is = to_z-of_z w64 less less-fits ∙ less-is

  pub whole-fits : SFits w32 (to_z w64 (of_z w64 less))
  whole-fits = subst (λ (z : ℤ). SFits w32 z) (sym whole_is) (fits32 (whole_of x) within)

  pub result-is : to_z w32 (of_z w32 (to_z w64 (of_z w64 less))) ≡ millimetres (rounded_of x)
  result-is = to_z-of_z w32 (to_z w64 (of_z w64 less)) whole-fits ∙ whole_is ∙ sym (ap millimetres (in-range x l h))
