-- `forms::triangle_forms`: the plane and each edge.
use Rattle.std.proofs.Common.{◌≡◌, ℕ, zero, suc, ◌<◌, [], ◌∷◌, ℤ, pos, ◌≤ℤ◌, to_z, of_z, w64, sym, ◌∙◌, subst, arith}
use lib.Dec.{lit<}
use mir.Facts.{to_z-of_z}
use Rattle.integers.specs.Within.{Within}
use Rattle.integers.proofs.Bounds.{within-fits}
use Rattle.geometry.specs.Bounds.{offset_max, normal_max, step_max, extent_max, PointWithin, TriangleWithin}
use Rattle.geometry.specs.declared.Point.{Point}
use Rattle.geometry.specs.declared.Triangle.{Triangle}
use Rattle.overlap.specs.Rule.{normal}
use Rattle.forms.specs.declared.Edge.{Edge}
use Rattle.forms.specs.declared.PlaneForm.{PlaneForm}
use Rattle.forms.specs.Form.{edge_of, BoundedEdge, BoundedPlane}
use Rattle.forms.specs.Triangle.{edge_between, plane_form, EdgeReady}
use Rattle.forms.proofs.Sizes.{normal-within, edge-bounded, plane-bounded}
use Rattle.forms.proofs.triangle_forms.Goals as goal

abbrev m : ℤ → ℤ
m z = to_z w64 (of_z w64 z)

-- a triangle, its normal, step and extent, within their bounds
module _ (t : Triangle) (n : Point) (step extent : ℤ) (h : TriangleWithin offset_max t × (n ≡ normal t) × Within step_max step × (pos 0 ≤ℤ step) × Within extent_max extent) where
  n-in : PointWithin normal_max n
  n-in = rw h.1 (normal-within h.0)

  -- step and extent, as the machine reads them back
  step_is : m step ≡ step
  step_is = to_z-of_z {w = w64} (within-fits (lit< tt) h.2)

  extent-is : m extent ≡ extent
  extent-is = to_z-of_z {w = w64} (within-fits (lit< tt) h.4)

  step-in : Within step_max (m step)
  step-in = rw step_is h.2

  extent-in : Within extent_max (m extent)
  extent-in = rw extent-is h.4

  -- what an edge asks, and what it is
  ready : {p q : Point} → PointWithin offset_max p → PointWithin offset_max q → EdgeReady n p q (m step) (m extent)
  ready k l = record { normal-in = n-in; from = k; to = l; step = step-in; extent = extent-in }

  edge-is : {r : Edge} (p q : Point) → r ≡ edge_between n p q (m step) (m extent) → r ≡ edge_between (normal t) p q step extent
  edge-is p q e = e ∙ (λ i. edge_between (h.1 i) p q (step_is i) (extent-is i))

  edge_in : {r : Edge} {p q : Point} → PointWithin offset_max p → PointWithin offset_max q → r ≡ edge_between n p q (m step) (m extent) → BoundedEdge r
  edge_in k l e = subst BoundedEdge (sym e) (edge-bounded step-in extent-in (ready k l))

  -- the plane
  module _ {r : PlaneForm} (e : r ≡ plane_form n t.v0 (m step) (m extent)) where
    plane-is : r ≡ plane_form (normal t) t.v0 step extent
    plane-is = e ∙ (λ i. plane_form (h.1 i) t.v0 (step_is i) (extent-is i))

    plane-in : BoundedPlane r
    plane-in = subst BoundedPlane (sym plane-is) (plane-bounded h.2 h.4 h.3 (normal-within h.0) h.0.v0)

-- what holds of three edges
three : {a b c : Edge} → BoundedEdge a → BoundedEdge b → BoundedEdge c → (k : ℕ) → k < 3 → BoundedEdge (edge_of (a ∷ b ∷ c ∷ []) k)
three a b c zero h = a
three a b c (suc zero) h = b
three a b c (suc (suc zero)) h = c
three a b c (suc (suc (suc k))) h = absurd (omega arith)

pub plane_form-plane-requires : goal.plane_form-plane-requires
plane_form-plane-requires c =
    let a = c.args in
    let r = c.requires in
    (n-in a.t a.n a.step a.extent r, r.0.v0, step-in a.t a.n a.step a.extent r, extent-in a.t a.n a.step a.extent r)

pub edge_between-e0-requires : goal.edge_between-e0-requires
edge_between-e0-requires c = let a = c.args in ready a.t a.n a.step a.extent c.requires c.requires.0.v0 c.requires.0.v1

pub edge_between-e1-requires : goal.edge_between-e1-requires
edge_between-e1-requires c = let a = c.args in ready a.t a.n a.step a.extent c.requires c.requires.0.v1 c.requires.0.v2

pub edge_between-e2-requires : goal.edge_between-e2-requires
edge_between-e2-requires c = let a = c.args in ready a.t a.n a.step a.extent c.requires c.requires.0.v2 c.requires.0.v0

pub invariant_of-result : goal.invariant_of-result
invariant_of-result c =
    let a = c.args in
    let r = c.requires in
    let h = r.0 in
    let edge : (e : Edge) (p q : Point) → PointWithin offset_max p → PointWithin offset_max q → e ≡ edge_between a.n p q (m a.step) (m a.extent) → BoundedEdge e =
    λ e p q k l is. edge_in a.t a.n a.step a.extent r k l is in
    record {
      bounded = record {
        plane = plane-in a.t a.n a.step a.extent r c.plane_form-plane.ensures;
        edge = three (edge _ _ _ h.v0 h.v1 c.edge_between-e0.ensures) (edge _ _ _ h.v1 h.v2 c.edge_between-e1.ensures) (edge _ _ _ h.v2 h.v0 c.edge_between-e2.ensures);
      };
    }

pub returns : goal.returns
returns c =
    let a = c.args in
    let r = c.requires in
    let t = a.t in
    record {
      plane = plane-is t a.n a.step a.extent r c.plane_form-plane.ensures;
      e0 = edge-is t a.n a.step a.extent r t.v0 t.v1 c.edge_between-e0.ensures;
      e1 = edge-is t a.n a.step a.extent r t.v1 t.v2 c.edge_between-e1.ensures;
      e2 = edge-is t a.n a.step a.extent r t.v2 t.v0 c.edge_between-e2.ensures;
    }
