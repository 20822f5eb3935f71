-- `scan::put_faces`: a record for each face, each behind the one before.
use Rattle.std.proofs.Common.{◌≡◌}
use Rattle.frame_write.proofs.Pieces.{Filling}
use Rattle.ply.specs.Body.{face_place}
use Rattle.scan.specs.Inner.{face_bytes}
use Rattle.scan.proofs.put_faces.Given as goal

abbrev pub invariant-loop-i : goal.invariant-loop-i
invariant-loop-i l = (l.at ≡ face_place l.ply.file.now l.ply.form l.i) × Filling (face_bytes l.ply.file.now l.ply.form) 16 12 l.ply.form.faces l.initial.out l.out l.i
