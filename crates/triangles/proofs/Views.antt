-- A grid's cells and a triangle's box of them, with the axes taken in turn.
--     turn-view      the axes taken in turn
--     places         a cell's places lie within the sides
-- Assumes nothing.
use mathlib.Core.Bool.{Bool}
use mathlib.Core.Path.{◌≡◌, sym, ap, ◌∙◌, subst}
use Prim.Native.Nat.{ℕ, ◌*◌, ◌/◌, ◌<◌}
use native.Mathlib.Decide.{dec_lt}
use native.Mathlib.Nat.{mul_assoc, mul_comm, mul-zero, zero-mul, mod-lt}
use native.Mathlib.Omega.{arith}
use Rattle.geometry.specs.declared.Triangle.{Triangle}
use Rattle.grid.specs.declared.Lattice.{Lattice}
use Rattle.grid.specs.Grid.{box_corner}
use Rattle.grid.specs.declared.BoxRange.{BoxRange}
use Rattle.column_rule.specs.Turn.{turn_triangle, turn_lattice, turn_box}
use Rattle.column_rule.proofs.Turns.{turn-rule, turn-picks}
use Rattle.columns.specs.declared.Strides.{Strides}
use Rattle.columns.specs.Draw.{number_of, u_of, v_of, w_of, cells_of, Numbers}
use Rattle.placed.specs.Numbering.{turn_strides}
use Rattle.triangles.specs.View.{View}

-- ---- the numbers
pub cells-turned : (a b c : ℕ) → b * c * a ≡ a * b * c
cells-turned a b c = mul_comm (b * c) a ∙ sym (mul_assoc a b c)

pub turn-numbers : {g : Strides} → Numbers g → Numbers (turn_strides g)
turn-numbers {g} h = record {
  back = λ n l. let p = h.back n (subst (λ m. n < m) (cells-turned g.nu g.nv g.nw) l) in omega arith;
  within = λ i j k a b c.
      let p = h.within k i j c a b in
      subst (λ m. number_of (turn_strides g) i j k < m) (sym (cells-turned g.nu g.nv g.nw)) (omega arith);
  u = λ i j k a b c. sym (ap-v i j k) ∙ h.v k i j c a b;
  v = λ i j k a b c. sym (ap-w i j k) ∙ h.w k i j c a b;
  w = λ i j k a b c. sym (ap-u i j k) ∙ h.u k i j c a b;
  su-most = h.sv-most;
  sv-most = h.sw-most;
  sw-most = h.su-most;
  nu-most = h.nv-most;
  nv-most = h.nw-most;
  nw-most = h.nu-most;
}
  where
    number-turned : (i j k : ℕ) → number_of g k i j ≡ number_of (turn_strides g) i j k
    number-turned i j k = omega arith

    ap-u : (i j k : ℕ) → u_of g (number_of g k i j) ≡ u_of g (number_of (turn_strides g) i j k)
    ap-u i j k = λ q. u_of g (number-turned i j k q)

    ap-v : (i j k : ℕ) → v_of g (number_of g k i j) ≡ v_of g (number_of (turn_strides g) i j k)
    ap-v i j k = λ q. v_of g (number-turned i j k q)

    ap-w : (i j k : ℕ) → w_of g (number_of g k i j) ≡ w_of g (number_of (turn_strides g) i j k)
    ap-w i j k = λ q. w_of g (number-turned i j k q)

-- ---- the places of a cell
some : (a b c : ℕ) {n : ℕ} → n < a * b * c → (0 < a) × (0 < b) × (0 < c)
some a b c {n} h = (
  by-dec (dec_lt 0 a) (λ e. clash (ap (λ (x : ℕ). x * b * c) e ∙ ap (λ (x : ℕ). x * c) (zero-mul b) ∙ zero-mul c)),
  by-dec (dec_lt 0 b) (λ e. clash (ap (λ (x : ℕ). a * x * c) e ∙ ap (λ (x : ℕ). x * c) (mul-zero a) ∙ zero-mul c)),
  by-dec (dec_lt 0 c) (λ e. clash (ap (λ (x : ℕ). a * b * x) e ∙ mul-zero (a * b))),
)
  where
    clash : a * b * c ≡ 0 → ⊥
    clash e = omega arith

    by-dec : {x : ℕ} → Dec (0 < x) → (x ≡ 0 → ⊥) → 0 < x
    by-dec (yes k) f = k
    by-dec (no k) f = absurd (f (omega arith))

pub places : (g : Strides) (n : ℕ) → n < cells_of g → (u_of g n < g.nu) × (v_of g n < g.nv) × (w_of g n < g.nw)
places g n h =
    let (a, b, c) = some g.nu g.nv g.nw h in
    (mod-lt (n / g.su) a, mod-lt (n / g.sv) b, mod-lt (n / g.sw) c)

-- ---- the same cells are wanted
pub turn-view : {g : Strides} {t : Triangle} {l : Lattice} {r : BoxRange} {cells : ℕ} {wanted : ℕ → Bool} → View g t l r cells wanted
    → View (turn_strides g) (turn_triangle t) (turn_lattice l) (turn_box r) cells wanted
turn-view {g} {t} {l} v = record {
  numbers = turn-numbers v.numbers;
  picks = turn-picks v.picks;
  cells_are = cells-turned g.nu g.nv g.nw ∙ v.cells_are;
  rule = λ n h. turn-rule t (box_corner l (u_of g n) (v_of g n) (w_of g n)) l.extent ∙ v.rule n h;
}
