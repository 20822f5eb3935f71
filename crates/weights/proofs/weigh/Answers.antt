-- `weights::weigh`: the first candidate that fits; some candidate does, so that the loop does not run to its end.
use mathlib.Core.List.{List, [], ◌∷◌}
use mathlib.Core.Path.{◌≡◌, sym, ap, ◌∙◌, subst}
use Prim.Native.Nat.{ℕ}
use lib.Dec.{T}
use lib.IntN.{ℤ}
use mir.Syntax.{w64}
use mir.Val.{to_z, of_z}
use Rattle.integers.specs.Within.{Within}
use Rattle.integers.proofs.Expr.{var, nth}
use Rattle.integers.proofs.Machine.{mach, run, small}
use Rattle.geometry.specs.declared.Point.{Point}
use Rattle.geometry.specs.declared.Triangle.{Triangle}
use Rattle.geometry.specs.Bounds.{extent_max, normal_max, each, PointWithin, BoundedPoint, BoundedTriangle}
use Rattle.geometry.specs.Geometry.{cube}
use Rattle.reach.proofs.Vectors.{◌at◌}
use Rattle.candidates.specs.Candidates.{rows, candidate, Fits}
use Rattle.candidates.proofs.Found.{some_next, reaches_some}
use Rattle.weights.specs.Inner.{BoundedRows}
use Rattle.weights.proofs.Sizes.{rows-bounded, candidate-bounded}
use Rattle.weights.proofs.Weighed.{weighed}
use Rattle.weights.proofs.weigh.Goals as goal

-- the rows, as the call gives them
module _ {rs : List Point} (t : Triangle) (p : Point) {e : ℤ} (h : Within extent_max e) (is : rs ≡ rows t p (cube (to_z w64 (of_z w64 e)))) where
  rows_are : rs ≡ rows t p (cube e)
  rows_are = is ∙ ap (λ (e : ℤ). rows t p (cube e)) (run (e ∷ []) (var 0) (extent_max ∷ []) tt (h, tt))

  rows-small : BoundedTriangle t → BoundedPoint p → BoundedRows rs
  rows-small ht hp = rw rows_are (rows-bounded ht hp h)

abbrev bs : List ℕ
bs = each normal_max 3 []

candidate-small : (rs : List Point) (m : ℕ) {w : Point} → BoundedRows rs → w ≡ candidate rs m → PointWithin normal_max w
candidate-small rs m h e = rw e (candidate-bounded rs h m)

pub loop-m-init : goal.loop-m-init
loop-m-init c = rw (rows_are c.args.t c.args.p c.requires.2 c.rows-rows.ensures) (reaches_some c.requires.3)

pub candidate-w-requires : goal.candidate-w-requires
candidate-w-requires c =
    let p = c.requires in
    (rows-small c.args.t c.args.p p.2 c.rows-rows.ensures p.0 p.1, c.loop-m-test.true)

pub fits-requires : goal.fits-requires
fits-requires c =
    let p = c.requires in
    let small = rows-small c.args.t c.args.p p.2 c.rows-rows.ensures p.0 p.1 in
    (small, candidate-small c.rows-rows.result c.loop-m.m small c.candidate-w.ensures)

pub loop-m-preserved : goal.loop-m-preserved
loop-m-preserved c = some_next c.loop-m.invariant (λ h. c.fits.ensures.no c.if-fits.false (subst (Fits _) (sym c.candidate-w.ensures) h))

pub returns-then-fits : goal.returns-then-fits
returns-then-fits c =
    let p = c.requires in
    let rs = c.rows-rows.result in
    let w = c.candidate-w.result in
    let is = c.candidate-w.ensures in
    let are = rows_are c.args.t c.args.p p.2 c.rows-rows.ensures in
    let b = candidate-small rs c.loop-m.m (rows-small c.args.t c.args.p p.2 c.rows-rows.ensures p.0 p.1) is in
    let field : (i : ℕ) → T (small (var i) bs) → mach (w at []) (var i) ≡ nth (w at []) i = λ i t. run (w at []) (var i) bs t (b.x, (b.y, (b.z, tt))) in
    weighed c.loop-m.m (is ∙ ap (λ (rs : List Point). candidate rs c.loop-m.m) are) (field 0 tt) (field 1 tt) (field 2 tt)
    (subst (λ (rs : List Point). Fits rs w) are (c.fits.ensures.yes c.if-fits.true))
