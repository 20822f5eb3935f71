-- `ranges::axis_range`: the least and the greatest of three, handed on.
use mathlib.Core.List.{List, [], ◌∷◌}
use mathlib.Core.Path.{◌≡◌, ap₂, ◌∙◌}
use Prim.Native.Nat.{ℕ}
use lib.IntN.{ℤ, pos}
use lib.Signed.{◌<ℤ◌}
use mir.Syntax.{w64}
use Rattle.integers.specs.Within.{Withins}
use Rattle.std.specs.Int.{int_min, int_max}
use Rattle.integers.proofs.Expr.{Expr, var, nth}
use Rattle.integers.proofs.Machine.{back, bounded, learnt, asked, run}
use Rattle.integers.proofs.MinMax.{within-min, within-max}
use Rattle.grid.specs.declared.CellRange.{CellRange}
use Rattle.ranges.specs.Range.{range_bounds, axis_bounds, Picks, ends_from, begins_by}
use Rattle.ranges.proofs.axis_range.Goals as goal
use Rattle.ranges.proofs.axis_range.Goals.{After-max-greatest, After-min-least, Start}

abbrev ρ : Start → List ℤ
ρ c = let a = c.args in a.a0 ∷ a.a1 ∷ a.a2 ∷ a.origin ∷ a.step ∷ a.extent ∷ []

abbrev Of : (ℤ → ℤ → ℤ) → ℤ → List ℤ → Type 0
Of op r l = r ≡ op (nth l 0) (nth l 1)

least-is : (c : After-min-least) → let a = c.before.before.args in c.min-least.result ≡ int_min (int_min a.a0 a.a1) a.a2
least-is c =
    let s = c.before.before in
    let m = c.before.min in
    let two = learnt (ρ s) (Of int_min m.result) (var 0 ∷ var 1 ∷ []) axis_bounds tt s.requires.0 m.ensures.value in
    c.min-least.ensures.value ∙ ap₂ int_min (back w64 m.type_inv ∙ two) (run (ρ s) (var 2) axis_bounds tt s.requires.0)

greatest-is : (c : After-max-greatest) → let a = c.before.before.before.before.args in c.max-greatest.result ≡ int_max (int_max a.a0 a.a1) a.a2
greatest-is c =
    let s = c.before.before.before.before in
    let m = c.before.max in
    let two = learnt (ρ s) (Of int_max m.result) (var 0 ∷ var 1 ∷ []) axis_bounds tt s.requires.0 m.ensures.value in
    c.max-greatest.ensures.value ∙ ap₂ int_max (back w64 m.type_inv ∙ two) (run (ρ s) (var 2) axis_bounds tt s.requires.0)

-- the arguments of `cell_range`
abbrev σ : After-max-greatest → List ℤ
σ c = let a = c.before.before.before.before.args in c.before.before.min-least.result ∷ c.max-greatest.result ∷ a.origin ∷ a.step ∷ a.extent ∷ []

ins : (c : After-max-greatest) → Withins range_bounds (σ c)
ins c =
    let (h0, (h1, (h2, rest))) = c.before.before.before.before.requires.0 in (
      rw (least-is c.before.before) (within-min _ _ (within-min _ _ h0 h1) h2),
      (rw (greatest-is c) (within-max _ _ (within-max _ _ h0 h1) h2), rest),
    )

abbrev es : List Expr
es = var 0 ∷ var 1 ∷ var 2 ∷ var 3 ∷ var 4 ∷ []

abbrev Picked : ℕ → CellRange → List ℤ → Type 0
Picked n r l = Picks n (ends_from (nth l 0) (nth l 2) (nth l 3) (nth l 4)) (begins_by (nth l 1) (nth l 2) (nth l 3)) r

pub returns : goal.returns
returns c =
    let m = c.before in
    let s = m.before.before.before.before in
    let h = learnt (σ m) (Picked s.args.cells c.cell_range.result) es range_bounds tt (ins m) c.cell_range.ensures in
    rw (least-is m.before.before, greatest-is m) at h

pub cell_range-requires : goal.cell_range-requires
cell_range-requires c = let s = c.before.before.before.before in (bounded (σ c) es range_bounds range_bounds tt (ins c), asked (σ c) (λ l. pos 0 <ℤ nth l 3) es range_bounds tt (ins c) s.requires.1, s.requires.2)
