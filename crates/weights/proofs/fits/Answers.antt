-- `weights::fits`: no row passed is negative on the weights.
use borrow.Author.Count.{below_more}
use mathlib.Core.Bool.{Bool}
use mathlib.Core.List.{List, []}
use mathlib.Core.Path.{◌≡◌, sym, ap, ◌∙◌}
use Prim.Native.Nat.{ℕ}
use native.Mathlib.Omega.{arith}
use lib.IntN.{ℤ, pos}
use lib.Signed.{lt_z, clash_ℤ}
use mir.Syntax.{w64}
use mir.Val.{to_z, of_z}
use Rattle.integers.specs.Within.{Withins}
use Rattle.integers.proofs.Omega.{lt-true, lt-false}
use Rattle.integers.proofs.Expr.{num}
use Rattle.integers.proofs.Machine.{back, tested}
use Rattle.geometry.specs.declared.Point.{Point}
use Rattle.geometry.specs.Bounds.{normal_max, each, PointWithin}
use Rattle.reach.proofs.Vectors.{totalᴱ, vec, ◌at◌}
use Rattle.weights.proofs.fits.Goals as goal

abbrev bs : List ℕ
bs = each normal_max 3 []

module _ {w : Point} (h : PointWithin normal_max w) where
  ins : Withins bs (w at [])
  ins = (h.x, (h.y, (h.z, tt)))

-- the test of a row, whose value the call gives
negative : {z v : ℤ} {t : Bool} → to_z w64 (of_z w64 z) ≡ z → z ≡ v → lt_z (to_z w64 (of_z w64 z)) (pos 0) ≡ t → lt_z v (pos 0) ≡ t
negative back is e = ap (λ (z : ℤ). lt_z z (pos 0)) (sym (back ∙ is)) ∙ e

pub loop-r-preserved : goal.loop-r-preserved
loop-r-preserved c = below_more _ _ c.loop-r.invariant (lt-false _ _ (negative (back w64 c.value.type_inv) c.value.ensures c.if-value-lt0.false))

pub returns : goal.returns
returns c =
    record {
      yes = λ e. record { rows = λ j h. c.loop-r.invariant j (omega arith); some = lt-true _ _ (tested (c.args.w at []) lt_z (num 0) (totalᴱ (vec 0)) bs tt (ins c.requires.1) e) };
      no = λ e f. clash_ℤ f.some (lt-false _ _ (tested (c.args.w at []) lt_z (num 0) (totalᴱ (vec 0)) bs tt (ins c.requires.1) e));
    }
