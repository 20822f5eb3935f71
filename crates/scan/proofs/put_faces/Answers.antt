-- `scan::put_faces`: a record for each face, each behind the one before.
use Rattle.std.proofs.Common.{◌≡◌, true, List, ◌++◌, ℕ, ◌+◌, ◌<◌, ◌≤◌, ℤ, length, take, drop, sym, ap, ◌∙◌, subst, arith}
use mathlib.Core.Bool.{and-eq-true_iff}
use Rattle.layout.specs.Layout.{version1, record_start, record_fields}
use Rattle.layout_write.specs.Writing.{can_hold_all, record_bytes}
use Rattle.frame_write.proofs.Pieces.{fill_none, fill-room, fill_more, fill-all, length-record}
use Rattle.ply_header.specs.declared.Form.{Form}
use Rattle.ply.specs.Body.{face_place, triangle_at}
use Rattle.scan.specs.Inner.{face_bytes, Faced}
use Rattle.scan.proofs.Triangles.{triangle-fits}
use Rattle.scan.proofs.Accepted.{few, passed-room, faced, inside, next-good}
use Rattle.scan.proofs.put_faces.Goals as goal

long : (s : List ℕ) (f : Form) (i : ℕ) → length (face_bytes s f i) ≡ 16
long s f i = length-record version1 (triangle_at s f (face_place s f i))

-- the number of faces, as the loop has it
module _ {i : ℕ} {f g : Form} (e : g ≡ f) where
  among : i < g.faces → i < f.faces
  among h = subst (λ (f : Form). i < f.faces) e h

  past : g.faces ≤ i → f.faces ≤ i
  past h = subst (λ (f : Form). f.faces ≤ i) e h

pub loop-i-init : goal.loop-i-init
loop-i-init c = (c.faces_start-at.ensures, fill_none)

pub triangle-requires : goal.triangle-requires
triangle-requires c = subst (Faced c.args.ply.now.file.now c.args.ply.now.form) (sym c.loop-i.invariant.0) (faced c.requires c.loop-i.i (among c.form-i-end.ensures c.loop-i-test.true))

pub put_at-requires : goal.put_at-requires
put_at-requires c =
    let s = c.args.ply.now.file.now in
    let at = c.loop-i.at in
    let held = ((and-eq-true_iff (can_hold_all (record_fields version1) (triangle_at s c.args.ply.now.form at)) _).0 (triangle-fits s c.args.ply.now.form at)).0 in (
      omega (arith, (among c.form-i-end.ensures c.loop-i-test.true), few c.requires),
      subst (λ (ns : List ℤ). can_hold_all (record_fields version1) ns ≡ true) (sym c.triangle.ensures) held,
      fill-room (long s c.args.ply.now.form) (passed-room c.requires) c.loop-i.invariant.1 (among c.form-i-end.ensures c.loop-i-test.true),
    )

pub overflow_add-at : goal.overflow_add-at
overflow_add-at c = omega (arith, c.loop-i.invariant.0, inside c.requires c.loop-i.i (among c.form-i-end.ensures c.loop-i-test.true))

pub loop-i-preserved : goal.loop-i-preserved
loop-i-preserved c =
    let s = c.args.ply.now.file.now in
    let w = c.loop-i in
    let put : List ℤ → List ℕ = λ ns. take (record_start version1 w.i) w.out ++ (record_bytes version1 ns ++ drop 16 (drop (record_start version1 w.i) w.out)) in (
      ap (λ (p : ℕ). p + 13) w.invariant.0 ∙ next-good c.requires w.i (among c.form-i-end.ensures c.loop-i-test.true),
      fill_more (long s c.args.ply.now.form) (passed-room c.requires) w.invariant.1 (among c.form-i-end.ensures c.loop-i-test.true)
          (c.put_at.ensures ∙ ap put (c.triangle.ensures ∙ ap (triangle_at s c.args.ply.now.form) w.invariant.0)),
    )

pub returns : goal.returns
returns c = fill-all c.loop-i.invariant.1 (past c.form-i-end.ensures c.loop-i-test.false)
