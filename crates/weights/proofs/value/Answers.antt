-- `weights::value`: it is one expression over the numbers of the row and the weights.
use mathlib.Core.List.{List, []}
use Prim.Native.Nat.{ℕ}
use lib.IntN.{ℤ}
use Rattle.integers.specs.Within.{Withins}
use Rattle.integers.proofs.Expr.{Expr}
use Rattle.integers.proofs.Machine.{Asks, asks, run}
use Rattle.geometry.specs.declared.Point.{Point}
use Rattle.geometry.specs.Bounds.{difference_max, normal_max, each, PointWithin}
use Rattle.reach.proofs.Vectors.{dotᴱ, vec, ◌at◌}
use Rattle.weights.proofs.value.Goals as goal

abbrev bs : List ℕ
bs = each difference_max 3 (each normal_max 3 [])

abbrev e : Expr
e = dotᴱ (vec 0) (vec 1)

module _ {r w : Point} (p : PointWithin difference_max r × PointWithin normal_max w) where
  abbrev ρ : List ℤ
  ρ = r at w at []

  ins : Withins bs ρ
  ins = let r = p.0 in let w = p.1 in (r.x, (r.y, (r.z, (w.x, (w.y, (w.z, tt))))))

  needed : Asks ρ e
  needed = asks ρ e bs tt ins

pub overflow_add-result : goal.overflow_add-result
overflow_add-result c = (needed c.requires).0.2

pub overflow_mul-result-3 : goal.overflow_mul-result-3
overflow_mul-result-3 c = (needed c.requires).1.2

pub overflow_add-result-2 : goal.overflow_add-result-2
overflow_add-result-2 c = (needed c.requires).2

pub returns : goal.returns
returns c = run (c.args.r at c.args.w at []) e bs tt (ins c.requires)
