-- The slab lemma. Two sides of a box that face each other bound a slab. If some weights satisfy the one side, and some weights the other, then some weights
-- satisfy both, together with whatever both satisfied: on the way from the ones to the others, there is no leaving the one side before the other is entered.
-- Used on each axis, it leaves eight statements of one side on each axis, in place of one of all six sides.
use mathlib.Core.Logic.{inl, inr}
use mathlib.Core.List.{List, [], ◌∷◌}
use lib.IntN.{pos, ◌+ℤ◌}
use Rattle.integers.proofs.Laws.{NN, ≤-or->}
use Rattle.integers.proofs.Expr.{var, ◌⊕◌, ◌⊗◌}
use Rattle.integers.proofs.Certificates.{nn, ◌⊞◌, ◌⊠◌, by_le}
use Rattle.geometry.specs.declared.Point.{Point}
use Rattle.geometry.specs.Geometry.{dot}
use Rattle.overlap.specs.Rule.{Side, low, high}
use Rattle.reach.proofs.Vectors.{negative}
use Rattle.reach.proofs.Weights.{Weights, Feasible, rest, rotate, crossing}

-- no weights fail both sides
abbrev pub Facing : Point → Point → Type 0
Facing lo hi = (w : Point) → Weights w → NN (dot lo w +ℤ dot hi w)

pub slab : {lo hi : Point} {fs : List Point} → Facing lo hi → Feasible (lo ∷ fs) → Feasible (hi ∷ fs) → Feasible (lo ∷ hi ∷ fs)
slab {lo} {hi} facing l h = elim (≤-or-> (pos 0) (dot hi l.w)) [
  | inl k ↦ record { w = l.w; ok = l.ok; sat = (l.sat.0, (k, l.sat.1)) }
  | inr k ↦
      let LL = var 0 in let HL = var 1 in let LH = var 2 in let HH = var 3 in
      crossing h (rest l) lo k (by_le (dot lo l.w ∷ dot hi l.w ∷ dot lo h.w ∷ dot hi h.w ∷ []) (HL ⊗ LH) (HH ⊗ LL)
      (nn HH h.sat.0 ⊠ nn (LL ⊕ HL) (facing l.w l.ok) ⊞ negative HL k ⊠ nn (LH ⊕ HH) (facing h.w h.ok)) tt)
]

-- the eight choices of one side on each axis are enough
module _ {f g h : Side → Point} (facing-f : Facing (f low) (f high)) (facing-g : Facing (g low) (g high)) (facing-h : Facing (h low) (h high))
    (eight : (α β γ : Side) → Feasible (f α ∷ g β ∷ h γ ∷ [])) where
  four : (β γ : Side) → Feasible (g β ∷ h γ ∷ f low ∷ f high ∷ [])
  four β γ = rotate (rotate (slab facing-f (eight low β γ) (eight high β γ)))

  two : (γ : Side) → Feasible (h γ ∷ f low ∷ f high ∷ g low ∷ g high ∷ [])
  two γ = rotate (rotate (slab facing-g (four low γ) (four high γ)))

  pub six-sides : Feasible (f low ∷ f high ∷ g low ∷ g high ∷ h low ∷ h high ∷ [])
  six-sides = rotate (rotate (slab facing-h (two low) (two high)))
