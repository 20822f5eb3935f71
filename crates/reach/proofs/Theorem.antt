-- The theorem: the overlap rule is exactly "reaches", for every triangle, flat ones too, and every box whose size is not negative. There is no bound on the
-- numbers. In the field's terms, the rule's axes are all that can separate a closed triangle from a closed box.
-- And what reaches a box reaches every box around it.
use mathlib.Core.Logic.{◌↔◌}
use mathlib.Core.List.{[], ◌∷◌}
use Prim.Native.Nat.{ℕ}
use lib.Dec.{T}
use lib.IntN.{ℤ, pos, ◌+ℤ◌}
use lib.Signed.{◌≤ℤ◌}
use Rattle.integers.proofs.Laws.{nn-pos}
use Rattle.integers.proofs.Expr.{var, ◌⊗◌}
use Rattle.integers.proofs.Certificates.{nn, le, ◌⊞◌, ◌⊠◌, by_le}
use Rattle.geometry.specs.declared.Point.{Point}
use Rattle.geometry.specs.declared.Triangle.{Triangle}
use Rattle.geometry.specs.Geometry.{Axis, x_of, y_of, z_of, cube}
use Rattle.overlap.specs.Rule.{overlaps_box}
use Rattle.reach.specs.Reaches.{Between, ReachesBox, Reaches}
use Rattle.reach.proofs.Sides.{Size}
use Rattle.reach.proofs.Tests.{rule-tests}
use Rattle.reach.proofs.RuleToReach.{rule-to-reach}
use Rattle.reach.proofs.ReachToRule.{reach-to-rule}

-- a box
pub box-rule : (t : Triangle) (p d : Point) → Size d → T (overlaps_box t p d) ↔ ReachesBox t p d
box-rule t p d size = (λ h. rule-to-reach size ((rule-tests t p d).iff.0 h), λ r. (rule-tests t p d).iff.1 (reach-to-rule r))

-- a cell
pub cell-rule : (t : Triangle) (p : Point) (s : ℤ) → pos 0 ≤ℤ s → T (overlaps_box t p (cube s)) ↔ Reaches t p s
cell-rule t p s h = box-rule t p (cube s) (record { x = h; y = h; z = h })

-- ---- a box around a box, from p' to p' + d', around p to p + d on an axis
-- Change request 14 (the same steel at half the cell) awaits `reaches-around`: a coarse cell is around each of its eight fine ones.
pub record Around (p d p' d' : Point) (a : Axis) : Type 0 where
  pub low : a p' ≤ℤ a p
  pub high : (a p +ℤ a d) ≤ℤ (a p' +ℤ a d')

wider : {p d p' d' : Point} {w : ℕ} {a : Axis} {s : ℤ} → Around p d p' d' a → Between p d w a s → Between p' d' w a s
wider {p} {d} {p'} {d'} {w} {a} {s} h b =
    let ρ = pos w ∷ s ∷ a p ∷ a p' ∷ (a p +ℤ a d) ∷ (a p' +ℤ a d') ∷ [] in
    let W = var 0 in let S = var 1 in let P = var 2 in let P' = var 3 in let Q = var 4 in let Q' = var 5 in
    record {
      from = by_le ρ (P' ⊗ W) S (le (P ⊗ W) S b.from ⊞ nn W (nn-pos w) ⊠ le P' P h.low) tt;
      to = by_le ρ S (Q' ⊗ W) (le S (Q ⊗ W) b.to ⊞ nn W (nn-pos w) ⊠ le Q Q' h.high) tt;
    }

module _ (t : Triangle) {p d p' d' : Point} (x : Around p d p' d' x_of) (y : Around p d p' d' y_of) (z : Around p d p' d' z_of) where
  pub reaches-around : ReachesBox t p d → ReachesBox t p' d'
  reaches-around r = record { w0 = r.w0; w1 = r.w1; w2 = r.w2; some = r.some; x = wider x r.x; y = wider y r.y; z = wider z r.z }
