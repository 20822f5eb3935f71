-- `forms::edge_between`: the edge is the difference of two corners, and each plane has its form.
use mathlib.Core.List.{List, [], ◌∷◌}
use mathlib.Core.Path.{◌≡◌, ◌∙◌}
use Prim.Native.Nat.{ℕ}
use lib.IntN.{ℤ}
use mir.Syntax.{w64}
use Rattle.integers.specs.Within.{Withins}
use Rattle.integers.proofs.Expr.{Expr, var, ◌⊖◌, nth}
use Rattle.integers.proofs.Machine.{back, bounded, learnt}
use Rattle.geometry.specs.Bounds.{offset_max, normal_max, step_max, extent_max, each}
use Rattle.forms.specs.declared.EdgeForm.{EdgeForm}
use Rattle.forms.specs.Triangle.{edge_form, inside_from, edge_bounds, inside_bounds, EdgeReady}
use Rattle.geometry.specs.declared.Point.{Point}
use Rattle.forms.proofs.edge_between.Goals as goal
use Rattle.forms.proofs.edge_between.Goals.{After-inside_from-inside}

-- the normal, the corners, step and extent
abbrev ρ : (n p q : Point) (step extent : ℤ) → List ℤ
ρ n p q step extent = n.x ∷ n.y ∷ n.z ∷ p.x ∷ p.y ∷ p.z ∷ q.x ∷ q.y ∷ q.z ∷ step ∷ extent ∷ []

abbrev bs : List ℕ
bs = each normal_max 3 (each offset_max 6 (step_max ∷ extent_max ∷ []))

ins : {n p q : Point} {step extent : ℤ} → EdgeReady n p q step extent → Withins bs (ρ n p q step extent)
ins r =
    let n = r.normal-in in
    let p = r.from in
    let q = r.to in
    (n.x, (n.y, (n.z, (p.x, (p.y, (p.z, (q.x, (q.y, (q.z, (r.step, (r.extent, tt)))))))))))

abbrev x : Expr
x = var 6 ⊖ var 3

abbrev y : Expr
y = var 7 ⊖ var 4

abbrev z : Expr
z = var 8 ⊖ var 5

-- the arguments of each call
abbrev xy : List Expr
xy = var 2 ∷ x ∷ y ∷ var 3 ∷ var 4 ∷ var 9 ∷ var 10 ∷ []

abbrev yz : List Expr
yz = var 0 ∷ y ∷ z ∷ var 4 ∷ var 5 ∷ var 9 ∷ var 10 ∷ []

abbrev zx : List Expr
zx = var 1 ∷ z ∷ x ∷ var 5 ∷ var 3 ∷ var 9 ∷ var 10 ∷ []

abbrev square : List Expr
square = var 2 ∷ x ∷ y ∷ var 10 ∷ []

abbrev Form : EdgeForm → List ℤ → Type 0
Form r l = r ≡ edge_form (nth l 0) (nth l 1) (nth l 2) (nth l 3) (nth l 4) (nth l 5) (nth l 6)

abbrev From : ℤ → List ℤ → Type 0
From r l = r ≡ inside_from (nth l 0) (nth l 1) (nth l 2) (nth l 3)

pub edge_form-vw-requires : goal.edge_form-vw-requires
edge_form-vw-requires c = let a = c.args in bounded (ρ a.n a.from a.to a.step a.extent) (y ∷ z ∷ var 4 ∷ var 5 ∷ var 9 ∷ var 10 ∷ []) bs edge_bounds tt (ins c.requires)

pub edge_form-wu-requires : goal.edge_form-wu-requires
edge_form-wu-requires c =
    let a = c.args in
    bounded (ρ a.n a.from a.to a.step a.extent) (z ∷ x ∷ var 5 ∷ var 3 ∷ var 9 ∷ var 10 ∷ []) bs edge_bounds tt (ins c.requires)

pub inside_from-inside-requires : goal.inside_from-inside-requires
inside_from-inside-requires c = let a = c.args in bounded (ρ a.n a.from a.to a.step a.extent) square bs inside_bounds tt (ins c.requires)

pub returns : goal.returns
returns c =
    let a = c.args in
    let l = ρ a.n a.from a.to a.step a.extent in
    let h = ins c.requires in
    λ i. record {
      uv = learnt l (Form c.edge_form-uv.result) xy bs tt h c.edge_form-uv.ensures i;
      vw = learnt l (Form c.edge_form-vw.result) yz bs tt h c.edge_form-vw.ensures i;
      wu = learnt l (Form c.edge_form-wu.result) zx bs tt h c.edge_form-wu.ensures i;
      inside = (back w64 c.inside_from-inside.type_inv ∙ learnt l (From c.inside_from-inside.result) square bs tt h c.inside_from-inside.ensures) i;
    }
