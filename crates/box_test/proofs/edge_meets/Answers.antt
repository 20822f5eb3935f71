-- `box_test::edge_meets`: the edge is the difference of two corners.
use Rattle.std.proofs.Common.{◌≡◌, List, [], ◌∷◌, ap, ◌∙◌, ℤ, pos, w64}
use borrow.Author.Rules.{rules}
use lib.Signed.{le_z}
use mir.Facts.{to_z-of_z}
use Rattle.integers.proofs.Expr.{Expr, var, num, ◌⊖◌, nth}
use Rattle.integers.proofs.Machine.{learnt}
use Rattle.forms.specs.declared.EdgeForm.{EdgeForm}
use Rattle.forms.specs.Triangle as F
use Rattle.box_test.specs.Inner.{edge_meets, edge_bounds}
use Rattle.box_test.proofs.edge_meets.Goals as goal

-- the arguments of the call, of n, the two corners and the extent
abbrev es : List Expr
es = var 0 ∷ (var 3 ⊖ var 1) ∷ (var 4 ⊖ var 2) ∷ var 1 ∷ var 2 ∷ num 0 ∷ var 5 ∷ []

abbrev Form : EdgeForm → List ℤ → Type 0
Form r l = r ≡ F.edge_form (nth l 0) (nth l 1) (nth l 2) (nth l 3) (nth l 4) (nth l 5) (nth l 6)

pub returns : goal.returns
unfolding edge_meets
returns c =
    let a = c.args in
    ap (le_z (pos 0)) (to_z-of_z {w = w64} {z = c.edge_form-f.result.c} (search rules))
    ∙ ap (λ (e : EdgeForm). le_z (pos 0) e.c)
    (learnt (a.n ∷ a.va ∷ a.vb ∷ a.wa ∷ a.wb ∷ a.extent ∷ []) (Form c.edge_form-f.result) es edge_bounds tt c.requires c.edge_form-f.ensures)
