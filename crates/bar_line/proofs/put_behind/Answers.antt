-- `bar_line::put_behind`: the file is accepted, and has the record. Assumes nothing.
use borrow.Author.Tests.{lt-ltb}
use Rattle.std.proofs.Common.{List, ℕ, ◌≡◌, sym, ap, ◌∙◌, ◌<◌, arith}
use Rattle.refusal.specs.Limit.{Answer, gives, said}
use Rattle.grid.specs.Grid.{cell_count}
use Rattle.layout.specs.declared.Record.{Record}
use Rattle.frame.specs.File.{header_of, record_of}
use Rattle.std.specs.Prelude.{Option, Some, Result, Ok, Err, IsOk, refl}
use Rattle.refusal.specs.declared.Limit.{Limit}
use Rattle.frame.specs.declared.Reading.{Reading}
use Rattle.frame.specs.Questions.{reading, checked}
use Rattle.frame.proofs.Accepted.{accepted, reading-accepted}
use Rattle.frame.proofs.Triangles.{triangle-within}
use Rattle.numbers.proofs.Readings.{record-small}
use Rattle.service.specs.declared.Bar.{Bar}
use Rattle.service.specs.Bar.{behind, Shown}
use Rattle.service.proofs.Answers.{behind-given}
use Rattle.bar_line.specs.Inner.{FewWeights}
use Rattle.bar_line.proofs.put_behind.Goals as goal

module _ (file : List ℕ) (cell : ℕ) (bar : Bar) (b : behind file cell ≡ gives (Some bar.index)) (s : Shown file cell (Ok (Some bar))) where
  given : (checked file ≡ gives (header_of file)) × (cell < cell_count (header_of file).grid)
  given = behind-given file cell b

  -- what is read
  abbrev values : Reading
  values = record { header = header_of file; found = Some (record_of file bar.index) }

  read-is : reading file bar.index ≡ gives values
  read-is = reading-accepted file bar.index (header_of file) given.0 ∙ rw (lt-ltb bar.index (header_of file).count s.known)

  is-ok : (r : Result Reading Limit) → said r ≡ reading file bar.index → IsOk r
  is-ok (Ok v) e = refl
  is-ok (Err l) e = let z : ◌≡◌ {A = ℕ} 0 1 = cc (e ∙ read-is) in absurd (omega arith)

  value-is : {r : Result Reading Limit} (v : Reading) → said r ≡ reading file bar.index → r ≡ Ok v → v ≡ values
  value-is v e ok = let same : ◌≡◌ {A = Answer Reading} (gives v) (gives values) = sym (ap said ok) ∙ e ∙ read-is in cc

  few : FewWeights bar.weights
  few =
      let h = s.shows in
      record {
        n0 = h.reaches.w0;
        n1 = h.reaches.w1;
        n2 = h.reaches.w2;
        w0 = h.w0;
        w1 = h.w1;
        w2 = h.w2;
        some = h.reaches.some;
        few = h.few;
      }

-- the record that was found
record-is : {o : Option Record} {r q : Record} → o ≡ Some r → o ≡ Some q → r ≡ q
record-is e f = cc

pub unwrap-reading-requires : goal.unwrap-reading-requires
unwrap-reading-requires c = let a = c.args in is-ok a.file.now a.cell a.bar c.requires.0 c.requires.1 _ c.read.ensures

pub unwrap-requires : goal.unwrap-requires
unwrap-requires c =
    let a = c.args in
    let v = value-is a.file.now a.cell a.bar c.requires.0 c.requires.1 _ c.read.ensures c.unwrap-reading.ensures in
    rw v refl

pub put_lines-requires : goal.put_lines-requires
put_lines-requires c =
    let a = c.args in
    let file = a.file.now in
    let g = given file a.cell a.bar c.requires.0 c.requires.1 in
    let v = value-is file a.cell a.bar c.requires.0 c.requires.1 _ c.read.ensures c.unwrap-reading.ensures in
    let rec = record-is c.unwrap.ensures (ap (λ (x : Reading). x.found) v) in
    rw (v, rec) (
      (accepted file (header_of file) g.0).grid.within,
      g.1,
      record-small file a.bar.index,
      triangle-within file a.bar.index,
      few file a.cell a.bar c.requires.0 c.requires.1,
      c.requires.2,
    )

pub returns : goal.returns
returns c =
    let a = c.args in
    let file = a.file.now in
    let v = value-is file a.cell a.bar c.requires.0 c.requires.1 _ c.read.ensures c.unwrap-reading.ensures in
    let rec = record-is c.unwrap.ensures (ap (λ (x : Reading). x.found) v) in
    rw (v, rec) at c.put_lines.ensures
