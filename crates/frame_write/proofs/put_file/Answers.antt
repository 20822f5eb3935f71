-- `frame_write::put_file` meets its contract: the header, and the records behind it.
use Rattle.std.proofs.Common.{List, ℕ, ℤ, ◌≡◌, ◌≤◌, ◌++◌, ◌*◌, ap, ◌∙◌, length, take, drop, arith}
use Rattle.layout.specs.declared.Layout.{Layout}
use Rattle.layout.specs.Layout.{version1, record_start}
use Rattle.layout_write.specs.Writing.{header_bytes}
use Rattle.refusal.specs.Inner.{asked, passed}
use Rattle.frame_write.specs.declared.GridValues.{GridValues}
use Rattle.frame_write.specs.Write.{header_to_write, triangle_count, records_bytes, write_questions}
use Rattle.frame_write.proofs.Asked.{Admitted, admitted}
use Rattle.frame_write.proofs.Pieces.{behind-head, length-head, length-header}
use Rattle.frame_write.proofs.put_file.Goals as goal

module _ (g : GridValues) (zs : List ℤ) (out : List ℕ) where
  -- the header's bytes, and the output with them
  abbrev front : List ℕ
  front = header_bytes version1 (header_to_write g (triangle_count zs))

  module _ (p : asked (write_questions version1 g zs (length out)) ≡ passed) where
    yes : Admitted version1 g zs (length out)
    yes = admitted version1 g zs (length out) p

    fits : 12 ≤ length out
    fits = omega (arith, yes.room)

    long : length (front ++ drop 12 out) ≡ length out
    long = length-head front out 12 (length-header version1 _) fits

pub put_head-requires : goal.put_head-requires
put_head-requires c =
    let a = c.args in
    let y = yes a.grid a.triangles.now a.out.now c.requires in
    (y.few, y.held, fits a.grid a.triangles.now a.out.now c.requires)

pub put_records-requires : goal.put_records-requires
put_records-requires c =
    let a = c.args in
    let y = yes a.grid a.triangles.now a.out.now c.requires in
    (y.few, y.whole, rw (ap length c.put_head.ensures ∙ long a.grid a.triangles.now a.out.now c.requires) y.room, y.triangles)

pub record_start-requires : goal.record_start-requires
record_start-requires c =
    let a = c.args in
    (yes a.grid a.triangles.now a.out.now c.requires).few

pub returns : goal.returns
returns c =
    let a = c.args in
    let n = triangle_count a.triangles.now in
    let rest = records_bytes version1 a.triangles.now n in (
      c.record_start.ensures ∙ ap (λ (l : Layout). record_start l n) c.version_1.ensures,
      c.put_records.ensures
          ∙ ap (λ (out : List ℕ). take 12 out ++ (rest ++ drop (record_start version1 n) out)) c.put_head.ensures
          ∙ behind-head (front a.grid a.triangles.now a.out.now) rest a.out.now 12 (16 * n) (length-header version1 _),
    )
