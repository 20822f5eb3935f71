-- `Ply::check_vertices`: each turn asks of one vertex.
use Rattle.ply.specs.Body.{vertex_place, vertex_question}
use Rattle.ply.proofs.Asking.{Asking}
use Rattle.ply.proofs.Ply.check_vertices.Given as goal

abbrev pub invariant-loop-k : goal.invariant-loop-k
invariant-loop-k l = Asking (vertex_question l.self.file.now l.form) (vertex_place l.form) l.form.vertices l.at l.k
