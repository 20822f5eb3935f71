-- `fill::fill_checked`: a map that is too short is refused; else it is emptied, and all triangles are added.
use Rattle.std.proofs.Common.{◌≡◌, ℕ, ◌≤◌, List, ◌++◌, length, drop, replicate, sym, ap, ◌∙◌, subst}
use borrow.Author.Rules.{rules}
use Rattle.refusal.specs.Limit.{gives}
use Rattle.layout.specs.declared.Header.{Header}
use Rattle.grid.specs.Grid.{cell_count}
use Rattle.frame.specs.File.{header_of}
use Rattle.frame.proofs.Accepted.{accepted, header_is}
use Rattle.map.specs.Map.{map_length, is_filled, count_below}
use Rattle.fill.specs.Fill.{grid_of, filled_in}
use Rattle.fill.specs.Inner.{AddsRecords}
use Rattle.triangles.specs.Add.{Adds}
use Rattle.fill.proofs.Triangles.{adds-all}
use Rattle.fill.proofs.Answers.{fill-short, fill-passed, fill-bytes, fill-count}
use Rattle.fill.proofs.fill_checked.Goals as goal

pub cell_count-n-requires : goal.cell_count-n-requires
cell_count-n-requires c =
    let f = c.args.frame.now in
    rw c.header-header.ensures (let g = (accepted f.file.now f.header f.accepted).grid.within in (g.x.most, g.y.most, g.z.most))

pub returns-then-map-len : goal.returns-then-map-len
returns-then-map-len c =
    let f = c.args.frame.now in
    let long = c.map_length-len.ensures ∙ ap map_length (c.cell_count-n.ensures.0 ∙ ap (λ (h : Header). cell_count h.grid) c.header-header.ensures) in
    let (said, left) = fill-short f.file.now c.args.map.now f.header f.accepted (rw long at c.if-map-len.true) in
    (sym said, sym left)

pub returns : goal.returns
returns c =
    let file = c.args.frame.now.file.now in
    let old = c.args.map.now in
    let new = c.add_records.new.map in
    let fact = c.args.frame.now.accepted in
    -- the header that was read is the file's
    let is : c.header-header.result ≡ header_of file = c.header-header.ensures ∙ sym (header_is file _ fact) in
    let cells = cell_count (grid_of file) in
    let n = c.cell_count-n.ensures.0 ∙ ap (λ (h : Header). cell_count h.grid) is in
    let len = c.map_length-len.ensures ∙ ap map_length n in
    let room : map_length cells ≤ length old = rw len at c.if-map-len.false in
    let added = subst (λ (l : List ℕ). AddsRecords file 0 c.header-header.result.count l new) (c.clear.ensures ∙ ap (λ (n : ℕ). replicate n 0 ++ drop n old) len) (rw c.file.ensures at c.add_records.ensures) in
    let adds : Adds cells (filled_in file) (replicate (map_length cells) 0 ++ drop (map_length cells) old) new =
    adds-all file (subst (λ (h : Header). AddsRecords file 0 h.count (replicate (map_length cells) 0 ++ drop (map_length cells) old) new) is added) in
    let (said, left) = fill-passed file old (header_of file) (fact ∙ ap gives (sym (header_is file _ fact))) room in (
      ap gives (c.count.ensures ∙ ap (count_below (is_filled new)) n ∙ fill-count (filled_in file) cells old new room adds) ∙ sym said,
      fill-bytes (filled_in file) cells old new room adds (λ i. search rules) (λ i. search rules) ∙ sym left,
    )
