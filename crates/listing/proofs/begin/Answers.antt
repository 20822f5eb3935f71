-- `listing::begin`: a refused file leaves map and output as they were; then question 8, the output's length, and the fill. Assumes nothing.
use Rattle.std.proofs.Common.{ℕ, ◌≡◌, sym, ap, ap₂, ◌∙◌, arith, length}
use Rattle.std.specs.Prelude.{Result, Ok, Err, IsErrAnd}
use Rattle.refusal.specs.declared.Limit.{Limit}
use Rattle.refusal.specs.Limit.{gives, said, said_limit}
use Rattle.grid.specs.declared.Grid.{Grid}
use Rattle.map.specs.Map.{map_length}
use Rattle.layout.specs.declared.Header.{Header}
use Rattle.frame.proofs.Accepted.{sides, header_is}
use Rattle.fill.specs.Fill.{grid_of}
use Rattle.fill.proofs.Answers.{left-refused, fill-refused, fill-short}
use Rattle.text.specs.Text.{spliced}
use Rattle.listing.specs.declared.Begun.{Begun}
use Rattle.listing.specs.declared.BeginError.{BeginError}
use Rattle.listing.specs.declared.BeginError.TheVariants.{Refused}
use Rattle.listing.specs.Listing.{first_line, more, all_of, said_begun}
use Rattle.listing.proofs.Starts.{start-refused, start-short, start-put, first-is}
use Rattle.listing.proofs.begin.Goals as goal

-- a limit that is handed on
handed : (r : Result Begun BeginError) (l : Limit) → IsErrAnd r (λ e. e ≡ Refused l) → said_begun r ≡ said_limit l
handed (Ok b) l h = absurd h
handed (Err e) l h = rw h

pub returns-in_err-frame : goal.returns-in_err-frame
returns-in_err-frame c =
    let a = c.args in
    let (said, map, bytes) = start-refused a.file.now a.map.now a.out.now (fill-refused a.file.now a.map.now (sym c.in_err-frame.ensures.said)).0 in
    (handed _ _ c.from_residual.ensures.1 ∙ said, map, bytes)

pub cell_count-all-requires : goal.cell_count-all-requires
cell_count-all-requires c = rw c.header.ensures (sides _ c.in_ok-frame.frame.accepted)

pub returns-then-map-map_length : goal.returns-then-map-map_length
returns-then-map-map_length c =
    let a = c.args in
    let long = c.map_length.ensures ∙ ap map_length (rw c.header.ensures at c.cell_count-all.ensures.0) in
    start-refused a.file.now a.map.now a.out.now (fill-short a.file.now a.map.now _ (sym c.in_ok-frame.ensures.said) (rw long at c.if-map-map_length.true)).0

pub returns-then-out-lt64 : goal.returns-then-out-lt64
returns-then-out-lt64 c =
    let a = c.args in
    let long = c.map_length.ensures ∙ ap map_length (rw c.header.ensures at c.cell_count-all.ensures.0) in
    start-short a.file.now a.map.now a.out.now _ (sym c.in_ok-frame.ensures.said) (rw long at c.if-map-map_length.false) c.if-out-lt64.true

pub returns-in_err-count : goal.returns-in_err-count
returns-in_err-count c =
    let a = c.args in
    let fill = rw c.in_ok-frame.ensures.same at c.fill_checked.ensures in
    let refused = sym fill.0 ∙ ap said c.in_err-count.was in
    let b = start-refused a.file.now a.map.now a.out.now refused in
    (handed _ _ c.from_residual-in_err-count.ensures.1 ∙ b.0, fill.1 ∙ left-refused a.file.now a.map.now refused ∙ b.1, b.2)

pub returns : goal.returns
returns c =
    let a = c.args in
    let h = c.in_ok-frame.frame.header in
    let e = sym c.in_ok-frame.ensures.said in
    let cells = rw c.header.ensures at c.cell_count-all.ensures.0 in
    let room = rw (c.map_length.ensures ∙ ap map_length cells) at c.if-map-map_length.false in
    let fill = rw c.in_ok-frame.ensures.same at c.fill_checked.ensures in
    let says = sym (ap said c.in_ok-count.was) ∙ fill.0 in
    let line = first-is a.file.now a.map.now a.out.now h e room says cells in
    let b = start-put a.file.now a.map.now a.out.now h e room c.if-out-lt64.false in
    let p = c.put_filled-len.ensures in
    let len : c.put_filled-len.result ≡ length (first_line a.file.now) = omega (arith, p.next, ap length line) in
    let same : c.header.result.grid ≡ grid_of a.file.now = ap (λ (h : Header). h.grid) (c.header.ensures ∙ sym (header_is a.file.now h e)) in
    (ap₂ (λ (n : ℕ) (g : Grid). gives (more n (all_of g))) len same ∙ b.0, fill.1 ∙ b.1, p.bytes ∙ ap (spliced a.out.now 0) line ∙ b.2)
