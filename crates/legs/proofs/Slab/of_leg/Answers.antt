-- `legs::Slab::of_leg`: the test says in which direction the leg is taken.
use mathlib.Core.List.{List, [], ◌∷◌}
use mathlib.Core.Path.{◌≡◌}
use lib.IntN.{ℤ}
use lib.Signed.{lt_z}
use Rattle.integers.proofs.Expr.{Expr, var, num, neg, nth}
use Rattle.integers.proofs.Machine.{tested, learnt}
use Rattle.legs.specs.Form.{Form}
use Rattle.legs.specs.Slab.{rising_slab, slab_of, slab_bounds}
use Rattle.legs.proofs.Slab.of_leg.Goals as goal

abbrev ρ : (ea eb va vb step extent : ℤ) → List ℤ
ρ ea eb va vb step extent = ea ∷ eb ∷ va ∷ vb ∷ step ∷ extent ∷ []

-- the leg's direction, and the other
abbrev onward : List Expr
onward = var 0 ∷ var 1 ∷ var 2 ∷ var 3 ∷ var 4 ∷ var 5 ∷ []

abbrev reversed : List Expr
reversed = neg (var 0) ∷ neg (var 1) ∷ var 2 ∷ var 3 ∷ var 4 ∷ var 5 ∷ []

abbrev Rising : Form → List ℤ → Type 0
Rising r l = r ≡ rising_slab (nth l 0) (nth l 1) (nth l 2) (nth l 3) (nth l 4) (nth l 5)

pub returns-then-eb-gt0 : goal.returns-then-eb-gt0
unfolding slab_of
returns-then-eb-gt0 c =
    let a = c.args in
    let r = ρ a.ea a.eb a.va a.vb a.step a.extent in
    rw (tested r lt_z (num 0) (var 1) slab_bounds tt c.requires.0 c.if-eb-gt0.true)
    (learnt r (Rising c.rising.result) reversed slab_bounds tt c.requires.0 c.rising.ensures)

pub returns-else-eb-gt0 : goal.returns-else-eb-gt0
unfolding slab_of
returns-else-eb-gt0 c =
    let a = c.args in
    let r = ρ a.ea a.eb a.va a.vb a.step a.extent in
    rw (tested r lt_z (num 0) (var 1) slab_bounds tt c.requires.0 c.if-eb-gt0.false)
    (learnt r (Rising c.rising-else-eb-gt0.result) onward slab_bounds tt c.requires.0 c.rising-else-eb-gt0.ensures)
