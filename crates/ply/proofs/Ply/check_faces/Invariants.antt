-- `Ply::check_faces`: each turn asks of one face.
use Rattle.ply.specs.Body.{face_place, face_question}
use Rattle.ply.proofs.Asking.{Asking}
use Rattle.ply.proofs.Ply.check_faces.Given as goal

abbrev pub invariant-loop-k : goal.invariant-loop-k
invariant-loop-k l = Asking (face_question l.self.file.now l.self.form) (face_place l.self.file.now l.self.form) l.self.form.faces l.at l.k
