-- The numbers of a vertex.
--     first-in, second-in, third-in   each number of a vertex lies in it
--     vertex-is          the vertex of its three numbers
--     Three, placed-three   each number of a vertex that is placed
-- Assumes nothing.
use mathlib.Core.Bool.{true, ◌&&◌, and-eq-true_iff}
use mathlib.Core.List.{List}
use mathlib.Core.Path.{◌≡◌, ap, ◌∙◌}
use Prim.Native.Nat.{ℕ, ◌+◌, ◌≤◌}
use native.Mathlib.Omega.{arith}
use Rattle.rounding.specs.declared.Number.{Number}
use Rattle.rounding.specs.declared.Vertex.{Vertex}
use Rattle.rounding.specs.Rounding.{rounded_of, is_whole}
use Rattle.rounding.specs.Widening.{widened_vertex}
use Rattle.ply_header.specs.declared.Form.{Form}
use Rattle.ply_vertex.specs.Vertex.{width_of, number_at, size_of, vertex_at, placed}

-- ---- the numbers of a vertex
module _ (f : Form) (at : ℕ) {n : ℕ} (h : at + size_of f ≤ n) where
  pub first-in : at + width_of f.x ≤ n
  unfolding size_of
  first-in = omega arith

  pub second-in : {a : ℕ} → a ≡ width_of f.x → at + a + width_of f.y ≤ n
  unfolding size_of
  second-in e = omega arith

  pub third-in : {a b : ℕ} → a ≡ width_of f.x → b ≡ width_of f.y → at + a + b + width_of f.z ≤ n
  unfolding size_of
  third-in e e' = omega arith

pub vertex-is : (s : List ℕ) (f : Form) (at : ℕ) {a b : ℕ} {x y z : Number} → a ≡ width_of f.x → b ≡ width_of f.y
    → x ≡ number_at f.x s at → y ≡ number_at f.y s (at + a) → z ≡ number_at f.z s (at + a + b) → widened_vertex x y z ≡ vertex_at s f at
unfolding vertex_at
vertex-is s f at ea eb px py pz =
    λ i. widened_vertex (px i) ((py ∙ ap (λ (w : ℕ). number_at f.y s (at + w)) ea) i) ((pz ∙ (λ j. number_at f.z s (at + ea j + eb j))) i)

-- ---- each number of a vertex that is placed
pub record Three (v : Vertex) : Type 0 where
  pub x : is_whole (rounded_of v.x) ≡ true
  pub y : is_whole (rounded_of v.y) ≡ true
  pub z : is_whole (rounded_of v.z) ≡ true

pub placed-three : (v : Vertex) → placed v ≡ true → Three v
unfolding placed
placed-three v e =
    let p = (and-eq-true_iff (is_whole (rounded_of v.x) && is_whole (rounded_of v.y)) (is_whole (rounded_of v.z))).0 e in
    let q = (and-eq-true_iff (is_whole (rounded_of v.x)) (is_whole (rounded_of v.y))).0 p.0 in
    record { x = q.0; y = q.1; z = p.1 }
