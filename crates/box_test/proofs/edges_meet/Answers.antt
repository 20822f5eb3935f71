-- `box_test::edges_meet`: the three edges in turn, up to the first that rules out the box.
use Rattle.std.proofs.Common.{◌≡◌, Bool, ◌&&◌, List, [], ◌∷◌, ◌∙◌, ℤ}
use Rattle.integers.specs.Within.{Withins}
use Rattle.integers.proofs.Expr.{Expr, var, nth}
use Rattle.integers.proofs.Machine.{machs, learnt}
use Rattle.box_test.specs.Inner.{edge_meets, edges_bounds}
use Rattle.box_test.proofs.Chain.{and_then, and_else}
use Rattle.box_test.proofs.edges_meet.Goals as goal
use Rattle.box_test.proofs.edges_meet.Goals.{Joined-edge_meets, then-edge_meets, else-edge_meets}

-- the arguments of each call
abbrev first : List Expr
first = var 0 ∷ var 1 ∷ var 2 ∷ var 3 ∷ var 4 ∷ var 7 ∷ []

abbrev second : List Expr
second = var 0 ∷ var 3 ∷ var 4 ∷ var 5 ∷ var 6 ∷ var 7 ∷ []

abbrev third : List Expr
third = var 0 ∷ var 5 ∷ var 6 ∷ var 1 ∷ var 2 ∷ var 7 ∷ []

abbrev Meets : Bool → List ℤ → Type 0
Meets r l = r ≡ edge_meets (nth l 0) (nth l 1) (nth l 2) (nth l 3) (nth l 4) (nth l 5)

-- what a call said of its edge
module _ {n a0 b0 a1 b1 a2 b2 extent : ℤ} (h : Withins edges_bounds (n ∷ a0 ∷ b0 ∷ a1 ∷ b1 ∷ a2 ∷ b2 ∷ extent ∷ [])) where
  abbrev ρ : List ℤ
  ρ = n ∷ a0 ∷ b0 ∷ a1 ∷ b1 ∷ a2 ∷ b2 ∷ extent ∷ []

  first-is : (r : Bool) → Meets r (machs ρ first) → r ≡ edge_meets n a0 b0 a1 b1 extent
  first-is r e = learnt ρ (Meets r) first edges_bounds tt h e

  second-is : (r : Bool) → Meets r (machs ρ second) → r ≡ edge_meets n a1 b1 a2 b2 extent
  second-is r e = learnt ρ (Meets r) second edges_bounds tt h e

  third-is : (r : Bool) → Meets r (machs ρ third) → r ≡ edge_meets n a2 b2 a0 b0 extent
  third-is r e = learnt ρ (Meets r) third edges_bounds tt h e

-- of the first two
two : (c : Joined-edge_meets) → let a = c.args in c.if-edge_meets.value ≡ (edge_meets a.n a.a0 a.b0 a.a1 a.b1 a.extent && edge_meets a.n a.a1 a.b1 a.a2 a.b2 a.extent)
two c =
    let a = c.args in
    let f = first-is c.requires c.edge_meets.result c.edge_meets.ensures in
    elim c.if-edge_meets.branch [
      | then-edge_meets w ↦ let r = w.edge_meets-then-edge_meets in w.value-is ∙ and_then f w.if-edge_meets.true (second-is c.requires r.result r.ensures)
      | else-edge_meets w ↦ w.value-is ∙ and_else (edge_meets a.n a.a1 a.b1 a.a2 a.b2 a.extent) f w.if-edge_meets.false
    ]

pub returns-then-edge_meets-2 : goal.returns-then-edge_meets-2
returns-then-edge_meets-2 c =
    let r = c.edge_meets-then-edge_meets-2 in
    and_then (two c.before.before) c.if-edge_meets-2.true (third-is c.requires r.result r.ensures)

pub returns-else-edge_meets-2 : goal.returns-else-edge_meets-2
returns-else-edge_meets-2 c = let a = c.args in and_else (edge_meets a.n a.a2 a.b2 a.a0 a.b0 a.extent) (two c.before) c.if-edge_meets-2.false
