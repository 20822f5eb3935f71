-- `Ply::faces_start`: the vertices of a file that was taken lie in it.
use Rattle.std.proofs.Common.{arith}
use Rattle.ply.proofs.Taken.{sized, vertices-in, vertex-place, body_is}
use Rattle.ply.proofs.Ply.faces_start.Goals as goal

pub overflow_mul-result : goal.overflow_mul-result
overflow_mul-result c =
    omega (arith, vertices-in (sized c.args.self.now.file.now c.args.self.now.form c.args.self.now.whole), vertex-place c.args.self.now.form c.args.self.now.form.vertices c.size.ensures.0)

pub overflow_add-result : goal.overflow_add-result
overflow_add-result c =
    omega (arith, vertices-in (sized c.args.self.now.file.now c.args.self.now.form c.args.self.now.whole), vertex-place c.args.self.now.form c.args.self.now.form.vertices c.size.ensures.0)

pub returns : goal.returns
returns c = body_is c.args.self.now.file.now c.args.self.now.form c.size.ensures.0
