-- `weights::candidate`: each weight is one expression over the numbers of the two rows.
use mathlib.Core.List.{List, []}
use Prim.Native.Nat.{ℕ, ◌/◌, ◌%◌}
use lib.Dec.{T}
use lib.IntN.{ℤ}
use Rattle.integers.specs.Within.{Withins}
use Rattle.integers.proofs.Expr.{Expr}
use Rattle.integers.proofs.Machine.{Asks, asks, run, small}
use Rattle.geometry.specs.declared.Point.{Point}
use Rattle.geometry.specs.Bounds.{difference_max, each}
use Rattle.reach.proofs.Vectors.{Vector, crossᴱ, vec, ◌at◌}
use Rattle.candidates.specs.Candidates.{row}
use Rattle.weights.specs.Inner.{BoundedRows}
use Rattle.weights.proofs.candidate.Goals as goal

abbrev bs : List ℕ
bs = each difference_max 6 []

abbrev w : Vector
w = crossᴱ (vec 0) (vec 1)

-- the two rows
abbrev ρ : List Point → ℕ → List ℤ
ρ rs m = row rs (m % 9) at row rs (m / 9) at []

module _ (rs : List Point) (m : ℕ) (h : BoundedRows rs) where
  ins : Withins bs (ρ rs m)
  ins =
      let a = h (m % 9) in
      let b = h (m / 9) in
      (a.x, (a.y, (a.z, (b.x, (b.y, (b.z, tt))))))

  needed : (e : Expr) → T (small e bs) → Asks (ρ rs m) e
  needed e t = asks (ρ rs m) e bs t ins

pub overflow_mul-result : goal.overflow_mul-result
overflow_mul-result c = (needed c.args.rows.now c.args.m c.requires.0 w.x tt).0.2

pub overflow_mul-result-2 : goal.overflow_mul-result-2
overflow_mul-result-2 c = (needed c.args.rows.now c.args.m c.requires.0 w.x tt).1.2

pub overflow_sub-result : goal.overflow_sub-result
overflow_sub-result c = (needed c.args.rows.now c.args.m c.requires.0 w.x tt).2

pub overflow_mul-result-3 : goal.overflow_mul-result-3
overflow_mul-result-3 c = (needed c.args.rows.now c.args.m c.requires.0 w.y tt).0.2

pub overflow_mul-result-4 : goal.overflow_mul-result-4
overflow_mul-result-4 c = (needed c.args.rows.now c.args.m c.requires.0 w.y tt).1.2

pub overflow_sub-result-2 : goal.overflow_sub-result-2
overflow_sub-result-2 c = (needed c.args.rows.now c.args.m c.requires.0 w.y tt).2

pub overflow_mul-result-5 : goal.overflow_mul-result-5
overflow_mul-result-5 c = (needed c.args.rows.now c.args.m c.requires.0 w.z tt).0.2

pub overflow_mul-result-6 : goal.overflow_mul-result-6
overflow_mul-result-6 c = (needed c.args.rows.now c.args.m c.requires.0 w.z tt).1.2

pub overflow_sub-result-3 : goal.overflow_sub-result-3
overflow_sub-result-3 c = (needed c.args.rows.now c.args.m c.requires.0 w.z tt).2

pub returns : goal.returns
returns c =
    let r = ρ c.args.rows.now c.args.m in
    let h = ins c.args.rows.now c.args.m c.requires.0 in
    λ i. record { x = run r w.x bs tt h i; y = run r w.y bs tt h i; z = run r w.z bs tt h i }
