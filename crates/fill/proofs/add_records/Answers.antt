-- `fill::add_records`: the records are those of an accepted file, so that each triangle may be added.
use Rattle.std.proofs.Common.{◌≡◌, ◌+◌, sym, ap, subst, arith}
use Rattle.grid.specs.Grid.{cell_count}
use Rattle.layout.specs.declared.Header.{Header}
use Rattle.layout.specs.declared.Record.{Record}
use Rattle.frame.proofs.Accepted.{accepted, header_is, usable, held}
use Rattle.frame.proofs.Triangles.{triangle-bounded}
use Rattle.triangles.specs.Add.{AddsTriangle}
use Rattle.fill.specs.Fill.{grid_of}
use Rattle.fill.specs.Part.{triangles_from}
use Rattle.fill.proofs.Ready.{ready-grid}
use Rattle.fill.proofs.Triangles.{adds_none, adds-more}
use Rattle.fill.proofs.add_records.Invariants.{record-at, fills}
use Rattle.fill.proofs.add_records.Goals as goal

pub loop-i-init : goal.loop-i-init
loop-i-init c = adds_none (fills c.args.header.grid c.lattice_of-l.result) (record-at c.args.file.now c.args.first) (cell_count c.args.header.grid) c.args.map.now

pub record-record-requires : goal.record-record-requires
record-record-requires c = held c.args.file.now c.requires.0 (omega (arith, c.requires.1))

pub fill_triangle-requires : goal.fill_triangle-requires
fill_triangle-requires c = (
  rw c.lattice_of-l.ensures (ready-grid (usable (accepted c.args.file.now c.args.header c.requires.0)) (omega (arith, c.requires.2, c.loop-i.invariant.len))),
  rw c.record-record.ensures (triangle-bounded c.args.file.now (c.args.first + c.loop-i.i)),
)

pub loop-i-preserved : goal.loop-i-preserved
loop-i-preserved c =
    let g = c.args.header.grid in
    let l = c.lattice_of-l.result in
    adds-more (fills g l) (record-at c.args.file.now c.args.first) (cell_count g) c.loop-i.i c.loop-i.invariant
    (subst (λ (x : Record). AddsTriangle g l x.triangle c.loop-i.map c.fill_triangle.new.map) c.record-record.ensures c.fill_triangle.ensures)

-- all triangles, of the file's own grid
pub returns : goal.returns
unfolding triangles_from
returns c =
    let a = c.args in
    let g : a.header.grid ≡ grid_of a.file.now = ap (λ (h : Header). h.grid) (sym (header_is a.file.now _ c.requires.0)) in
    let all : c.loop-i.i ≡ a.count = omega (arith, c.loop-i-test.false, c.loop-i.auto.i-end) in
    rw (c.lattice_of-l.ensures, g, all) at c.loop-i.invariant
