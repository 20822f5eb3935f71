-- `desk::desk_scan`: the answer of a scan, packed.
use Rattle.std.proofs.Common.{length, ap, ◌∙◌}
use borrow.Author.Tests.{eq-eqb, ne_eqb}
use Rattle.pack.specs.Pack.{packed_count}
use Rattle.pack.proofs.Unpack.{counted}
use Rattle.frame_write.specs.declared.GridValues.{GridValues}
use Rattle.scan.specs.Scan.{scanning, scan_bytes}
use Rattle.desk.proofs.Fitting.{scan-fits, scan-seven, scan-not-seven}
use Rattle.desk.proofs.desk_scan.Goals as goal

pub returns-then-grid-ne7 : goal.returns-then-grid-ne7
returns-then-grid-ne7 c =
    let a = c.args in
    let other = scan-not-seven a.grid.now a.out.now a.ply.now (ne_eqb (length a.grid.now) 7 c.if-grid-ne7.true) in
    let e = c.pack_limit.ensures ∙ ap packed_count other.0 in
    (e, λ short. counted (scan-fits a.ply.now short a.grid.now (length a.out.now)) e, other.1)

pub returns : goal.returns
returns c =
    let a = c.args in
    let given = scan-seven a.grid.now a.out.now a.ply.now (eq-eqb (length a.grid.now) 7 c.if-grid-ne7.false) in
    let said = c.scan.ensures.0 ∙ ap (λ (v : GridValues). scanning v a.ply.now (length a.out.now)) c.grid_from.ensures ∙ given.0 in
    let left = c.scan.ensures.1 ∙ ap (λ (v : GridValues). scan_bytes v a.ply.now a.out.now) c.grid_from.ensures ∙ given.1 in
    let e = c.pack_count.ensures ∙ ap packed_count said in
    (e, λ short. counted (scan-fits a.ply.now short a.grid.now (length a.out.now)) e, left)
