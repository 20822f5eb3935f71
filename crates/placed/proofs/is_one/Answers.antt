-- `placed::is_one`: the range, the least and the greatest coordinate are tested in turn.
use Rattle.std.proofs.Common.{◌≡◌, ℕ, List, [], ◌∷◌, Bool, true, false, ◌&&◌, ℤ, pos, ◌+ℤ◌, ◌*ℤ◌, ◌<◌, ◌^◌, to_z, w64, sym, ap₂, ◌∙◌, arith}
use borrow.Author.Tests.{eq-eqb}
use lib.Signed.{le_z}
use mir.Facts.{to_z_pos}
use Rattle.std.specs.Int.{int_min, int_max}
use Rattle.integers.specs.Within.{Withins}
use Rattle.integers.proofs.Expr.{Expr, raw, var, ◌⊕◌, ◌⊗◌}
use Rattle.integers.proofs.Machine.{mach, asks, run}
use Rattle.geometry.specs.Bounds.{index_max}
use Rattle.placed.specs.Box.{one_bounds}
use Rattle.placed.proofs.Three.{of-three}
use Rattle.placed.proofs.is_one.Goals as goal

-- where the cell's box begins, and where it ends, of the index, the origin, the step, the extent and the coordinates
abbrev low : Expr
low = var 1 ⊕ raw 0 ⊗ var 2

abbrev high : Expr
high = low ⊕ var 3

abbrev bs : List ℕ
bs = index_max ∷ one_bounds

-- the numbers of an axis, and an index below 64
module _ {origin step extent a0 a1 a2 : ℤ} {i : ℕ} (p : Withins one_bounds (origin ∷ step ∷ extent ∷ a0 ∷ a1 ∷ a2 ∷ []) × (i < 64)) where
  abbrev ρ : List ℤ
  ρ = to_z w64 i ∷ origin ∷ step ∷ extent ∷ a0 ∷ a1 ∷ a2 ∷ []

  index-is : to_z w64 i ≡ pos i
  index-is = let h : i < 2 ^ 63 = omega (arith, p.1) in to_z_pos w64 h

  ins : Withins bs ρ
  ins = (rw index-is (record { within = omega (arith, p.1) }), p.0)

  low-is : mach ρ low ≡ origin +ℤ pos i *ℤ step
  low-is = run ρ low bs tt ins ∙ (λ j. origin +ℤ index-is j *ℤ step)

  high-is : mach ρ high ≡ origin +ℤ pos i *ℤ step +ℤ extent
  high-is = run ρ high bs tt ins ∙ (λ j. origin +ℤ index-is j *ℤ step +ℤ extent)

-- of three tests, the first two hold; the first holds and the second does not
third : {a b : Bool} (c : Bool) → a ≡ true → b ≡ true → c ≡ (a && b && c)
third c e f = λ i. sym e i && sym f i && c

second : {a b : Bool} (c : Bool) → a ≡ true → b ≡ false → false ≡ (a && b && c)
second c e f = λ i. sym e i && sym f i && c

pub overflow_add-result : goal.overflow_add-result
overflow_add-result c = (asks (ρ c.requires) high bs tt (ins c.requires)).2

pub returns-then-low-min : goal.returns-then-low-min
returns-then-low-min c =
    let r = c.ranges in
    let p = c.requires in
    let least-is = of-three int_min r.a0 r.a1 r.a2 c.min.type_inv c.min-2.type_inv c.min.ensures.value c.min-2.ensures.value in
    let greatest-is = of-three int_max r.a0 r.a1 r.a2 c.max.type_inv c.max-then-low-min.type_inv c.max.ensures.value c.max-then-low-min.ensures.value in
    ap₂ le_z greatest-is (high-is p) ∙ third _ (eq-eqb _ _ c.if-r.false) (sym (ap₂ le_z (low-is p) least-is) ∙ c.if-low-min.true)

pub returns-else-low-min : goal.returns-else-low-min
returns-else-low-min c =
    let r = c.ranges in
    let least-is = of-three int_min r.a0 r.a1 r.a2 c.min.type_inv c.min-2.type_inv c.min.ensures.value c.min-2.ensures.value in
    c.if-low-min.false ∙ second _ (eq-eqb _ _ c.if-r.false) (sym (ap₂ le_z (low-is c.requires) least-is) ∙ c.if-low-min.false)
