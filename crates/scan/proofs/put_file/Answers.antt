-- `scan::put_file`: the header, and the records of the faces behind it.
use Rattle.std.proofs.Common.{◌≡◌, true, List, ◌++◌, ℕ, ◌*◌, ◌<◌, ◌≤◌, length, take, drop, sym, ap, ◌∙◌, subst, arith}
use mathlib.Core.Bool.{and-eq-true_iff}
use Rattle.layout.specs.Layout.{version1, header_fields, record_start}
use Rattle.layout_write.specs.Writing.{can_hold_all, header_bytes}
use Rattle.frame_write.specs.declared.GridValues.{GridValues}
use Rattle.frame_write.specs.Write.{header_to_write, concat_below}
use Rattle.frame_write.proofs.Pieces.{behind-head, length-head, length-header}
use Rattle.ply_header.specs.declared.Form.{Form}
use Rattle.scan.specs.Scan.{grid_fits}
use Rattle.scan.specs.Inner.{face_bytes, Accepted}
use Rattle.scan.proofs.Triangles.{grid-any}
use Rattle.scan.proofs.Accepted.{few, passed-room}
use Rattle.scan.proofs.put_file.Goals as goal

module _ {s : List ℕ} {f : Form} {room : ℕ} (a : Accepted s f room) where
  less : f.faces < 4096
  less = omega (arith, few a)

  fits : 12 ≤ room
  fits = omega (arith, passed-room a)

  held : (g : GridValues) → grid_fits g ≡ true → can_hold_all (header_fields version1) (header_to_write g f.faces) ≡ true
  held g e = ((and-eq-true_iff (can_hold_all (header_fields version1) (header_to_write g f.faces)) _).0 (grid-any g f.faces less e)).0

pub put_head-requires : goal.put_head-requires
put_head-requires c =
    let e = ap (λ (f : Form). f.faces) c.form-faces.ensures in
    subst (λ (n : ℕ). (n < 4096) × (can_hold_all (header_fields version1) (header_to_write c.args.grid n) ≡ true) × (12 ≤ length c.args.out.now))
    (sym e) (less c.requires.1, held c.requires.1 c.args.grid c.requires.0, fits c.requires.1)

-- the header is there
pub put_faces-requires : goal.put_faces-requires
put_faces-requires c =
    let a = c.args in
    let p = a.ply.now in
    let front = header_bytes version1 (header_to_write a.grid c.form-faces.result.faces) in
    subst (Accepted p.file.now p.form)
    (sym (ap length c.put_head.ensures ∙ length-head front a.out.now 12 (length-header version1 _) (fits c.requires.1)))
    c.requires.1

pub record_start-requires : goal.record_start-requires
record_start-requires c = rw c.form-faces.ensures (less c.requires.1)

pub returns : goal.returns
returns c =
    let a = c.args in
    let p = a.ply.now in
    let n = p.form.faces in
    let e = ap (λ (f : Form). f.faces) c.form-faces.ensures in
    let front = header_bytes version1 (header_to_write a.grid n) in
    let rest = concat_below (face_bytes p.file.now p.form) n in (
      c.record_start.ensures ∙ (λ i. record_start (c.version_1.ensures i) (e i)),
      c.put_faces.ensures
          ∙ ap (λ (o : List ℕ). take 12 o ++ (rest ++ drop (record_start version1 n) o)) (c.put_head.ensures ∙ ap (λ (k : ℕ). header_bytes version1 (header_to_write a.grid k) ++ drop 12 a.out.now) e)
          ∙ behind-head front rest a.out.now 12 (16 * n) (length-header version1 _),
    )
