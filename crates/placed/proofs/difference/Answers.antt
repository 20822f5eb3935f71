-- `placed::difference`: each difference is that of two bounded numbers.
use Rattle.std.proofs.Common.{◌≡◌, [], ◌∷◌, ℤ, ◌-ℤ◌, to_z, of_z, w64}
use Rattle.integers.proofs.Expr.{var, ◌⊖◌}
use Rattle.integers.specs.Within.{Within}
use Rattle.integers.proofs.Machine.{run}
use Rattle.geometry.specs.Bounds.{coordinate_max}
use Rattle.placed.proofs.difference.Goals as goal

less : {x y : ℤ} → Within coordinate_max x → Within coordinate_max y
    → to_z w64 (of_z w64 (to_z w64 (of_z w64 x) -ℤ to_z w64 (of_z w64 y))) ≡ x -ℤ y
less {x} {y} h k = run (x ∷ y ∷ []) (var 0 ⊖ var 1) (coordinate_max ∷ coordinate_max ∷ []) tt (h, (k, tt))

pub returns : goal.returns
returns c =
    let (v, o) = c.requires in
    λ i. record { x = less v.x o.x i; y = less v.y o.y i; z = less v.z o.z i }
