-- `ply_vertex::vertex`: three numbers, one behind the other.
use Rattle.std.proofs.Common.{ℕ, ◌+◌, ap, ◌∙◌}
use Rattle.ply_vertex.specs.Vertex.{vertex_at}
use Rattle.ply_vertex.specs.Inner.{nan_at}
use Rattle.ply_vertex.proofs.Patterns.{whole-yes}
use Rattle.ply_vertex.proofs.Parts.{first-in, second-in, third-in, vertex-is, placed-three}
use Rattle.ply_vertex.proofs.vertex.Goals as goal

pub number-requires : goal.number-requires
unfolding vertex_at
number-requires c =
    let a = c.args in
    (first-in a.f a.at c.requires.0, whole-yes a.s.now a.at a.f.x (placed-three (vertex_at a.s.now a.f a.at) c.requires.1).x)

pub number-requires-2 : goal.number-requires-2
unfolding vertex_at
number-requires-2 c =
    let a = c.args in
    let e = c.width.ensures.0 in (
      second-in a.f a.at c.requires.0 e,
      ap (λ (w : ℕ). nan_at a.f.y a.s.now (a.at + w)) e ∙ whole-yes a.s.now _ a.f.y (placed-three (vertex_at a.s.now a.f a.at) c.requires.1).y,
    )

pub number-requires-3 : goal.number-requires-3
unfolding vertex_at
number-requires-3 c =
    let a = c.args in
    let e = c.width.ensures.0 in
    let e' = c.width-2.ensures.0 in (
      third-in a.f a.at c.requires.0 e e',
      (λ i. nan_at a.f.z a.s.now (a.at + e i + e' i)) ∙ whole-yes a.s.now _ a.f.z (placed-three (vertex_at a.s.now a.f a.at) c.requires.1).z,
    )

pub returns : goal.returns
returns c =
    c.widened.ensures.0 ∙ vertex-is _ _ _ c.width.ensures.0 c.width-2.ensures.0 c.number.ensures c.number-2.ensures c.number-3.ensures
