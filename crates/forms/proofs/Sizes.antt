-- The size of what the set-up computes: of a number that is turned, and of the forms of a bounded triangle.
-- Assumes nothing.
use mathlib.Core.Bool.{Bool, true, false, cond}
use mathlib.Core.Path.{◌≡◌}
use Prim.Native.Nat.{ℕ, zero-le}
use Rattle.std.proofs.Common.{neg_ℤ, FitsSigned, to_z, of_z, w64}
use mir.Facts.{to_z-of_z}
use lib.Dec.{lit<, lit≤}
use lib.IntN.{ℤ, pos, nat_abs}
use lib.Signed.{◌≤ℤ◌, le_z, lt_z}
use Rattle.integers.specs.Within.{Within}
use Rattle.integers.proofs.Laws.{nn-mul}
use Rattle.integers.proofs.Bounds.{within-add, within-sub, within-mul, within-neg, within-weaken, within-fits}
use Rattle.integers.proofs.MinMax.{max!, within-max}
use Rattle.integers.proofs.Omega.{zarith}
use Rattle.std.specs.Int.{int_max}
use Rattle.integers.proofs.Orientation.{turned_by, orientation-nn}
use Rattle.geometry.specs.Bounds.{offset_max, difference_max, normal_max, step_max, extent_max, PointWithin, TriangleWithin}
use Rattle.geometry.specs.declared.Point.{Point}
use Rattle.geometry.specs.declared.Triangle.{Triangle}
use Rattle.overlap.specs.Rule.{normal, turned}
use Rattle.forms.specs.Form.{inside_max, BoundedForm, BoundedEdge, BoundedPlane}
use Rattle.forms.specs.Triangle.{component, edge_form, inside_from, edge_between, plane_form, EdgeReady}

pub max-swap : (a b : ℤ) → int_max a b ≡ int_max b a
max-swap a b = omega (zarith, max! a b, max! b a)

pub within-zero : {B : ℕ} → Within B (pos 0)
within-zero = record { within = zero-le }

-- ---- choices
within-cond : {B : ℕ} {x y : ℤ} (t : Bool) → Within B x → Within B y → Within B (cond t x y)
within-cond true h k = h
within-cond false h k = k

pub within-turned : {B : ℕ} {c : ℤ} (n : ℤ) → Within B c → Within B (turned n c)
within-turned n h = within-cond (lt_z n (pos 0)) (within-neg h) h

pub within-size : {B : ℕ} {c : ℤ} → Within B c → Within B (pos (nat_abs c))
within-size h = record { within = h.within }

-- the negative of a component of a normal is a number of the machine too, also where the component is turned
abbrev m : ℤ → ℤ
m z = to_z w64 (of_z w64 z)

pub negates : {z : ℤ} → Within normal_max z → FitsSigned w64 (neg_ℤ (m z))
negates h = rw (to_z-of_z {w = w64} (within-fits (lit< tt) h)) (within-fits (lit< tt) (within-neg h))

pub turned-negates : (n : ℤ) {c r : ℤ} → Within normal_max c → r ≡ turned (m n) (m c) → FitsSigned w64 (neg_ℤ (m r))
turned-negates n {r = r} h e = negates {z = r} (rw (e, to_z-of_z {w = w64} (within-fits (lit< tt) h)) (within-turned (m n) h))

-- ---- the normal
abbrev C : ℤ → Type 0
C z = Within offset_max z

pub component-within : {a0 b0 a1 b1 a2 b2 : ℤ} → C a0 → C b0 → C a1 → C b1 → C a2 → C b2 → Within normal_max (component a0 b0 a1 b1 a2 b2)
component-within h0 k0 h1 k1 h2 k2 =
    within-sub (within-mul (within-sub h1 h0) (within-sub k2 k0)) (within-mul (within-sub k1 k0) (within-sub h2 h0))

pub normal-within : {t : Triangle} → TriangleWithin offset_max t → PointWithin normal_max (normal t)
normal-within h =
    let a = h.v0 in
    let b = h.v1 in
    let c = h.v2 in
    record {
      x = component-within a.y a.z b.y b.z c.y c.z;
      y = component-within a.z a.x b.z b.x c.z c.x;
      z = component-within a.x a.y b.x b.y c.x c.y;
    }

-- ---- the forms
module _ {s d : ℤ} (hs : Within step_max s) (hd : Within extent_max d) where
  form-bounded : (n : ℤ) {ea eb va vb : ℤ} → Within difference_max ea → Within difference_max eb → C va → C vb → BoundedForm (edge_form n ea eb va vb s d)
  form-bounded n ha hb ka kb =
      let a = within-turned n (within-neg hb) in
      let b = within-turned n ha in
      let up = within-add (within-max _ _ within-zero a) (within-max _ _ within-zero b) in
      record { a = within-mul hs a; b = within-mul hs b; c = within-weaken (lit≤ tt) (within-sub (within-mul hd up) (within-add (within-mul a ka) (within-mul b kb))) }

  inside-bounded : (n : ℤ) {ea eb : ℤ} → Within difference_max ea → Within difference_max eb → Within inside_max (inside_from n ea eb d)
  inside-bounded n ha hb =
      within-cond (le_z (pos (nat_abs n)) (pos 0)) (record { within = lit≤ tt }) (within-weaken (lit≤ tt) (within-mul hd (within-add (within-size ha) (within-size hb))))

  pub edge-bounded : {n p q : Point} → EdgeReady n p q s d → BoundedEdge (edge_between n p q s d)
  edge-bounded {n} r =
      let p = r.from in
      let q = r.to in
      let x = within-sub q.x p.x in
      let y = within-sub q.y p.y in
      let z = within-sub q.z p.z in
      record {
        uv = form-bounded n.z x y p.x p.y;
        vw = form-bounded n.x y z p.y p.z;
        wu = form-bounded n.y z x p.z p.x;
        inside = inside-bounded n.z x y;
      }

  pub plane-bounded : {n v : Point} → pos 0 ≤ℤ s → PointWithin normal_max n → PointWithin offset_max v → BoundedPlane (plane_form n v s d)
  plane-bounded {n} positive h k =
      let x = within-turned n.z h.x in
      let y = within-turned n.z h.y in
      let z = within-turned n.z h.z in
      let up = within-add (within-add (within-max _ _ within-zero x) (within-max _ _ within-zero y)) z in
      let along = within-add (within-add (within-mul x k.x) (within-mul y k.y)) (within-mul z k.z) in
      record {
        u = within-mul hs x;
        v = within-mul hs y;
        w = within-mul hs z;
        rises = nn-mul positive (rw (turned_by n.z n.z) (orientation-nn n.z));
        at = within-weaken (lit≤ tt) (within-sub (within-mul hd up) along);
        reach = within-weaken (lit≤ tt) (within-mul hd (within-add (within-add (within-size x) (within-size y)) z));
      }
