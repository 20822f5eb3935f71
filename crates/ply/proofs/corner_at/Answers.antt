-- `ply::corner_at`: the vertex that the index names, rounded.
use Rattle.std.proofs.Common.{◌≡◌, List, ℕ, ◌+◌, ◌*◌, ◌<◌, ◌≤◌, true, length, nat_abs, sym, ap, ◌∙◌, w32, arith, rules}
use mir.Facts.{to_z-of_z}
use Rattle.bits.specs.Field.{twos_complement}
use Rattle.ply_header.specs.declared.Form.{Form}
use Rattle.ply_vertex.specs.Vertex.{little_endian, size_of, vertex_at, placed}
use Rattle.ply_vertex.proofs.Parts.{placed-three}
use Rattle.ply.specs.Body.{vertex_place, index_at, is_index}
use Rattle.ply.specs.Inner.{Cornered}
use Rattle.ply.proofs.Taken.{vertex-place, vertex-in}
use Rattle.ply.proofs.Faces.{index_is, rounded}
use Rattle.ply.proofs.corner_at.Goals as goal

-- w is the index that was read, and b the bytes of a vertex
module _ {s : List ℕ} {f : Form} {at w : ℕ} (q : Cornered s f at) (small : w < 4294967296) (e : w ≡ little_endian s at 4) where
  -- the index is a vertex's
  named : (w < f.vertices) × (nat_abs (twos_complement 32 w) ≡ w)
  named = index_is f.vertices w small (ap (λ (w : ℕ). is_index f.vertices (twos_complement 32 w)) e ∙ q.index)

  -- it is the one that the definition names
  index : w ≡ nat_abs (index_at s at)
  index = sym named.1 ∙ ap (λ (w : ℕ). nat_abs (twos_complement 32 w)) e

  module _ {b : ℕ} (z : b ≡ size_of f) where
    -- its vertex lies in the file
    inside : f.body + w * b + size_of f ≤ length s
    inside = omega (arith, vertex-place f w z, vertex-in f w named.0 q.vertices)

    -- and is placed
    there : placed (vertex_at s f (f.body + w * b)) ≡ true
    there = ap (λ (at : ℕ). placed (vertex_at s f at)) (vertex-place f w z) ∙ q.places w named.0

pub overflow_add-form : goal.overflow_add-form
overflow_add-form c = omega (arith, inside c.requires (search rules) c.word-index.ensures c.size-bytes.ensures.0)

pub vertex-v-requires : goal.vertex-v-requires
vertex-v-requires c =
    (inside c.requires (search rules) c.word-index.ensures c.size-bytes.ensures.0, there c.requires (search rules) c.word-index.ensures c.size-bytes.ensures.0)

pub whole-requires : goal.whole-requires
whole-requires c =
    (placed-three _ (ap placed c.vertex-v.ensures ∙ there c.requires (search rules) c.word-index.ensures c.size-bytes.ensures.0)).x

pub whole-requires-2 : goal.whole-requires-2
whole-requires-2 c =
    (placed-three _ (ap placed c.vertex-v.ensures ∙ there c.requires (search rules) c.word-index.ensures c.size-bytes.ensures.0)).y

pub whole-requires-3 : goal.whole-requires-3
whole-requires-3 c =
    (placed-three _ (ap placed c.vertex-v.ensures ∙ there c.requires (search rules) c.word-index.ensures c.size-bytes.ensures.0)).z

pub returns : goal.returns
returns c =
    let f = c.args.form in
    let read = index c.requires (search rules) c.word-index.ensures in
    let is = c.vertex-v.ensures ∙ ap (vertex_at c.args.file.now f) (vertex-place f c.word-index.result c.size-bytes.ensures.0 ∙ ap (vertex_place f) read) in
    rounded is
    (to_z-of_z {w = w32} {z = c.whole.result} (search rules) ∙ c.whole.ensures)
    (to_z-of_z {w = w32} {z = c.whole-2.result} (search rules) ∙ c.whole-2.ensures)
    (to_z-of_z {w = w32} {z = c.whole-3.result} (search rules) ∙ c.whole-3.ensures)
