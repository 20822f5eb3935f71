-- Numbers that 32 bits hold: the conversion to them says what the definition says.
--     ok_held      a number, where the conversion holds it
--     held-said    what a word's number as a number of 32 bits is
-- Assumes nothing.
use Rattle.std.proofs.Common.{◌≡◌, refl, ap, ◌∙◌, ℤ, true, false, w32, arith, Option, Some, None, Result, Ok, Err}
use Rattle.std.specs.Result.{OkIff, result_ok}
use Rattle.std.specs.Int.RustNames.{FitsSigned}
use Rattle.std.proofs.lemmas.Int.{ints}
use Rattle.number_list.specs.Numbers.{fits, held}

inside : (z : ℤ) → FitsSigned w32 z → fits z ≡ true
inside z h = grind (arith, ints)

outside : (z : ℤ) → (FitsSigned w32 z → ⊥) → fits z ≡ false
outside z h = grind (arith, ints)

ok_held : {E : Type 0} (r : Result ℤ E) (z : ℤ) → OkIff r (FitsSigned w32 z) z → result_ok r ≡ held (Some z)
ok_held (Ok x) z h = rw (inside z h.0) (ap Some h.1)
ok_held (Err e) z h = rw (outside z h) refl

pub held-said : {E : Type 0} (o r : Option ℤ) → (o ≡ None → r ≡ None) → ((z : ℤ) → o ≡ Some z → (x : Result ℤ E) × OkIff x (FitsSigned w32 z) z × (r ≡ result_ok x)) → r ≡ held o
held-said None r n s = n refl
held-said (Some z) r n s = let t = s z refl in t.2 ∙ ok_held t.0 z t.1
