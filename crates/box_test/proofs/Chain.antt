-- A chain of tests: the answer v of those before, and the next.
--     and_then, and_else
-- Assumes nothing.
use Rattle.std.proofs.Common.{◌≡◌, Bool, true, false, ◌&&◌, sym, ◌∙◌}

pub and_then : {v a b r : Bool} → v ≡ a → v ≡ true → r ≡ b → r ≡ (a && b)
and_then {b = b} e t k = k ∙ (λ i. (sym t ∙ e) i && b)

pub and_else : {v a : Bool} (b : Bool) → v ≡ a → v ≡ false → v ≡ (a && b)
and_else b e f = f ∙ (λ i. (sym f ∙ e) i && b)
