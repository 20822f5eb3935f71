-- A block that an edge rules out has no cell to fill.
--     far              a × i is greatest at the far end
--     ruled_out        where a block is not kept, no column of it passes
-- Assumes nothing.
use mathlib.Core.Bool.{Bool, true, false, cond, ◌&&◌, and-eq-true_iff, false≢true}
use mathlib.Core.List.{[], ◌∷◌}
use mathlib.Core.Path.{◌≡◌, refl, sym, ◌∙◌}
use Prim.Native.Nat.{ℕ, ◌-◌, ◌<◌, ◌≤◌}
use native.Mathlib.Omega.{arith}
use lib.IntN.{ℤ, pos, ◌-ℤ◌, ◌*ℤ◌}
use lib.Signed.{◌≤ℤ◌, le_z, lt_z, ≤ℤ_refl}
use Rattle.integers.proofs.Omega.{zarith, -!, lt-true, lt-false, le-true, true-le}
use Rattle.integers.proofs.Laws.{<→≤, ≤_trans, ≤-add, pos-le}
use Rattle.integers.proofs.Expr.{var, num, ◌⊗◌}
use Rattle.integers.proofs.Certificates.{le, ◌⊠◌, by_le}
use Rattle.grid.specs.declared.CellRange.{CellRange}
use Rattle.grid.specs.Range.{in_range}
use Rattle.forms.specs.declared.bounded.Forms.{Forms}
use Rattle.forms.specs.Forms.{edge_at}
use Rattle.runs.proofs.Narrow.{in-range}
use Rattle.columns.specs.declared.Strides.{Strides}
use Rattle.columns.specs.Draw.{drawn}
use Rattle.columns.specs.Column.{value_at, column_passes, cell_passes}
use Rattle.columns.proofs.Drawing.{nothing}
use Rattle.columns.proofs.Cells.{cell-fails}
use Rattle.blocks.specs.declared.shape.Block.{Block}
use Rattle.blocks.specs.Block.{u_range, v_range, columns_of, far_end, far_value, kept_by}

-- ---- the far end of a range
pub before : (n : ℕ) → 0 < n → pos n -ℤ pos 1 ≡ pos (n - 1)
before n h = omega (zarith, -! (pos n) (pos 1))

module _ (a : ℤ) (first end i : ℕ) (from : first ≤ i) (to : i < end) where
  falling : a ≤ℤ pos 0 → (a *ℤ pos i) ≤ℤ (a *ℤ pos first)
  falling h = by_le (a ∷ pos i ∷ pos first ∷ []) (var 0 ⊗ var 1) (var 0 ⊗ var 2) (le (var 0) (num 0) h ⊠ le (var 2) (var 1) (pos-le from)) tt

  rising : pos 0 ≤ℤ a → (a *ℤ pos i) ≤ℤ (a *ℤ (pos end -ℤ pos 1))
  rising h =
      by_le (a ∷ pos i ∷ (pos end -ℤ pos 1) ∷ []) (var 0 ⊗ var 1) (var 0 ⊗ var 2) (le (num 0) (var 0) h ⊠ le (var 1) (var 2) last) tt
    where
      last : pos i ≤ℤ (pos end -ℤ pos 1)
      last = rw (before end (omega arith)) (pos-le (omega arith))

  pub far : (a *ℤ pos i) ≤ℤ (a *ℤ far_end a first end)
  far = go (lt_z a (pos 0)) refl
    where
      go : (t : Bool) → lt_z a (pos 0) ≡ t → (a *ℤ pos i) ≤ℤ (a *ℤ cond t (pos first) (pos end -ℤ pos 1))
      go true e = falling (<→≤ (lt-true a (pos 0) e))
      go false e = rising (lt-false a (pos 0) e)

-- ---- a column of a block
module _ (l : Forms) (b : Block) (i j : ℕ) (inside : columns_of b i j ≡ true) where
  below : (m : ℕ) → value_at l m i j ≤ℤ far_value (edge_at l m).uv b
  below m =
      let f = (edge_at l m).uv in
      let (hu, hv) = (and-eq-true_iff (in_range (u_range b) i) (in_range (v_range b) j)).0 inside in
      let (u0, u1) = in-range (u_range b) i hu in
      let (v0, v1) = in-range (v_range b) j hv in
      ≤-add (≤-add (far f.a b.u0 b.u1 i u0 u1) (far f.b b.v0 b.v1 j v0 v1)) (≤ℤ_refl f.c)

  -- a value that is not negative is not below the far value
  more : (m : ℕ) → le_z (pos 0) (value_at l m i j) ≡ true → le_z (pos 0) (far_value (edge_at l m).uv b) ≡ true
  more m e = true-le (pos 0) (far_value (edge_at l m).uv b) (≤_trans (le-true (pos 0) (value_at l m i j) e) (below m))

  kept : column_passes l i j ≡ true → kept_by l b ≡ true
  unfolding kept_by
  kept e =
      let (e01, e2) = (and-eq-true_iff (le_z (pos 0) (value_at l 0 i j) && le_z (pos 0) (value_at l 1 i j)) (le_z (pos 0) (value_at l 2 i j))).0 e in
      let (e0, e1) = (and-eq-true_iff (le_z (pos 0) (value_at l 0 i j)) (le_z (pos 0) (value_at l 1 i j))).0 e01 in
      λ d. more 0 e0 d && more 1 e1 d && more 2 e2 d

  fails : kept_by l b ≡ false → column_passes l i j ≡ false
  fails e = go (column_passes l i j) refl
    where
      go : (t : Bool) → column_passes l i j ≡ t → t ≡ false
      go true p = absurd (false≢true (sym e ∙ kept p))
      go false p = refl

pub ruled_out : (g : Strides) (l : Forms) (w : CellRange) (b : Block) → kept_by l b ≡ false → (n : ℕ) → drawn g (columns_of b) (cell_passes l w) n ≡ false
ruled_out g l w b e = nothing g (columns_of b) (cell_passes l w) (λ i j k h. cell-fails l w i j (fails l b i j h e) k)
