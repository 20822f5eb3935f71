-- `ply_vertex::size`: the sum of three widths.
use Rattle.std.proofs.Common.{arith}
use Rattle.ply_vertex.specs.Vertex.{size_of}
use Rattle.ply_vertex.proofs.size.Goals as goal

pub returns : goal.returns
unfolding size_of
returns c =
    let x = c.width.ensures in
    let y = c.width-2.ensures in
    let z = c.width-3.ensures in
    (omega (arith, x.0, y.0, z.0), omega (arith, x.1, y.1, z.1), omega (arith, x.1, y.1, z.1))
