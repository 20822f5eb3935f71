-- The least or the greatest of three numbers, as the machine has it of two after two.
--     of-three
-- Assumes nothing.
use Rattle.std.proofs.Common.{◌≡◌, ℤ, FitsSigned, to_z, of_z, w64, ap₂, ◌∙◌, ◌<◌, ◌^◌}
use lib.Signed.{mag}
use mir.Facts.{to_z-of_z}
use Rattle.integers.proofs.Machine.{back}

abbrev m : ℤ → ℤ
m z = to_z w64 (of_z w64 z)

pub of-three : (op : ℤ → ℤ → ℤ) {a b c two r : ℤ} → FitsSigned w64 a → FitsSigned w64 b → FitsSigned w64 c → mag two < 2 ^ 63 → mag r < 2 ^ 63
    → two ≡ op (m a) (m b) → r ≡ op (m two) (m c) → m r ≡ op (op a b) c
of-three op fa fb fc ft fr e f = back w64 fr ∙ f ∙ ap₂ op (back w64 ft ∙ e ∙ ap₂ op (to_z-of_z fa) (to_z-of_z fb)) (to_z-of_z fc)
