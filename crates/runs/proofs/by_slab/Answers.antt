-- `runs::by_slab`: three searches, each from where the last one ended.
use Rattle.std.proofs.Common.{ℕ, List, [], ◌∷◌, ℤ}
use Rattle.integers.specs.Within.{Withins}
use Rattle.integers.proofs.Expr.{Expr, var, num, neg, ◌⊖◌, nth}
use Rattle.integers.proofs.Machine.{learnt}
use Rattle.runs.specs.Run.{slope_max, Splits, FormHolds, FormFails, slab_max, reach_max}
use Rattle.runs.proofs.Narrow.{in-slab}
use Rattle.runs.proofs.by_slab.Goals as goal

abbrev bs : List ℕ
bs = slope_max ∷ slab_max ∷ reach_max ∷ []

-- the forms of the three searches
abbrev plain : List Expr
plain = var 0 ∷ var 1 ∷ []

abbrev mirror : List Expr
mirror = neg (var 0) ∷ (neg (var 1) ⊖ num 1) ∷ []

abbrev shift : List Expr
shift = var 0 ∷ (var 1 ⊖ var 2 ⊖ num 1) ∷ []

pub returns : goal.returns
returns c =
    let a = c.args in
    let p = c.requires in
    let ρ : List ℤ = a.step ∷ a.at ∷ a.reach ∷ [] in
    let ins : Withins bs ρ = (p.slope, (p.constant, (p.thick, tt))) in
    in-slab a.step a.at a.reach p.low p.high
    (learnt ρ (λ l. Splits a.hint a.run.end (FormFails (nth l 0) (nth l 1)) (FormHolds (nth l 0) (nth l 1)) c.raised-up.result) plain bs tt ins c.raised-up.ensures)
    (learnt ρ (λ l. Splits a.run.first c.raised-up.result (FormHolds (nth l 0) (nth l 1)) (FormFails (nth l 0) (nth l 1)) c.lowered-first.result) mirror bs tt ins c.lowered-first.ensures)
    (learnt ρ (λ l. Splits c.lowered-first.result a.run.end (FormFails (nth l 0) (nth l 1)) (FormHolds (nth l 0) (nth l 1)) c.raised-end.result) shift bs tt ins c.raised-end.ensures)
