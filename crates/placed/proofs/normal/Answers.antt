-- `placed::normal`: a component for each axis.
use Rattle.std.proofs.Common.{◌≡◌, ℕ, List, [], ◌∷◌, ℤ, w64, ◌∙◌}
use Rattle.integers.specs.Within.{Withins}
use Rattle.integers.proofs.Expr.{Expr, var, nth}
use Rattle.integers.proofs.Machine.{back, learnt}
use Rattle.geometry.specs.Bounds.{offset_max, each, TriangleWithin}
use Rattle.geometry.specs.declared.Triangle.{Triangle}
use Rattle.forms.specs.Triangle.{component}
use Rattle.placed.proofs.normal.Goals as goal

-- the coordinates
abbrev ρ : Triangle → List ℤ
ρ t = t.v0.x ∷ t.v0.y ∷ t.v0.z ∷ t.v1.x ∷ t.v1.y ∷ t.v1.z ∷ t.v2.x ∷ t.v2.y ∷ t.v2.z ∷ []

abbrev bs : List ℕ
bs = each offset_max 9 []

ins : {t : Triangle} → TriangleWithin offset_max t → Withins bs (ρ t)
ins h = (h.v0.x, (h.v0.y, (h.v0.z, (h.v1.x, (h.v1.y, (h.v1.z, (h.v2.x, (h.v2.y, (h.v2.z, tt)))))))))

abbrev in-yz : List Expr
in-yz = var 1 ∷ var 2 ∷ var 4 ∷ var 5 ∷ var 7 ∷ var 8 ∷ []

abbrev in-zx : List Expr
in-zx = var 2 ∷ var 0 ∷ var 5 ∷ var 3 ∷ var 8 ∷ var 6 ∷ []

abbrev in-xy : List Expr
in-xy = var 0 ∷ var 1 ∷ var 3 ∷ var 4 ∷ var 6 ∷ var 7 ∷ []

abbrev Component : ℤ → List ℤ → Type 0
Component r l = r ≡ component (nth l 0) (nth l 1) (nth l 2) (nth l 3) (nth l 4) (nth l 5)

pub returns : goal.returns
returns c =
    let t = c.args.t in
    λ i. record {
      x = (back w64 c.component-x.type_inv ∙ learnt (ρ t) (Component c.component-x.result) in-yz bs tt (ins c.requires) c.component-x.ensures) i;
      y = (back w64 c.component-y.type_inv ∙ learnt (ρ t) (Component c.component-y.result) in-zx bs tt (ins c.requires) c.component-y.ensures) i;
      z = (back w64 c.component-z.type_inv ∙ learnt (ρ t) (Component c.component-z.result) in-xy bs tt (ins c.requires) c.component-z.ensures) i;
    }
