-- `parse::number_as`: the conversion is of the number that the word says. Assumes nothing.
use Rattle.std.proofs.Common.{◌≡◌, ◌∙◌, subst, ℤ, of_z, to_z, w64, Some, rules}
use Rattle.std.proofs.lemmas.Int.{to_z-of_z}
use Rattle.parse.proofs.number_as.Goals as goal

pub returns-clause-some : goal.returns-clause-some
returns-clause-some g c z e =
    let x : ℤ = c.in_ok-number_in.field-0 in
    let passed : to_z w64 (of_z w64 x) ≡ x = to_z-of_z w64 x (search rules) in
    let said : Some x ≡ Some z = c.in_ok-number_in.ensures ∙ e in
    let same : x ≡ z = cc in
    (c.try_from.result, subst (λ y. g.T.TryFrom.try_from_gives y c.try_from.result) (passed ∙ same) c.try_from.ensures, c.ok.ensures.value)
