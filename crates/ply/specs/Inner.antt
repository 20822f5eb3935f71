-- What a function asks. Definitions only; no public promise cites them.
use Rattle.std.specs.Prelude.{true, List, ◌≡◌, ℕ, ◌+◌, ◌<◌, ◌≤◌, length}
use Rattle.ply_header.specs.declared.Form.{Form}
use Rattle.ply_vertex.specs.Vertex.{placed}
use Rattle.ply.specs.Body.{vertex_place, vertex_of, index_at, is_index}

-- The index of a vertex stands at a place. The vertices lie in the file, and each of them passed.
pub record Cornered (s : List ℕ) (f : Form) (at : ℕ) : Type 0 where
  pub vertices : vertex_place f f.vertices ≤ length s
  pub places : (k : ℕ) → k < f.vertices → placed (vertex_of s f k) ≡ true
  pub room : at + 4 ≤ length s
  pub index : is_index f.vertices (index_at s at) ≡ true
