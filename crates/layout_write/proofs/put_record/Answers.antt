-- `layout_write::put_record` meets its contract: the ten numbers of a record, one behind the other.
use Rattle.std.proofs.Common.{◌≡◌, true, List, ℕ, ◌<◌, ◌+◌, ◌*◌, ◌^◌, ℤ, lit<, arith}
use lib.ListN.{get_or}
use Rattle.bits.specs.declared.Pen.{Pen}
use Rattle.bits.specs.Inner.{Put}
use Rattle.layout_write.specs.declared.WritableLayout.{WritableLayout}
use Rattle.layout.specs.Layout.{field, plain, record_fields}
use Rattle.layout_write.specs.Writing.{can_hold_all, record_bytes}
use Rattle.layout_write.specs.Put.{Puttable}
use Rattle.layout_write.proofs.Penned.{Penned, penned-first, penned-more}
use Rattle.layout_write.proofs.Rows.{Row, next, row_done, record-narrow}
use Rattle.layout_write.proofs.put_record.Goals as goal

-- where the first k numbers have been put, number k can be
ready : (l : WritableLayout) (ns : List ℤ) → can_hold_all (record_fields l.shape) ns ≡ true → (k : ℕ) {t : List ℕ} {p : Pen} → k < 10
    → Row (record_fields l.shape) ns l.shape.stride k t p → Puttable t p (get_or (record_fields l.shape) k (field plain 0)) ns k
ready l ns held k = next (record_fields l.shape) ns l.shape.stride (record-narrow l.shape) l.record_full held k

-- one number more
infixl 4 ◌then◌
◌then◌ : {K N len w v : ℕ} {s new : List ℕ} {p r : Pen} → Penned K N s len p → Put s p w v new r → Penned (K + w) (N * 2 ^ w + v) new len r
d then t = penned-more d t

pub put_signed-z0-requires : goal.put_signed-z0-requires
put_signed-z0-requires c =
    ready c.args.layout c.args.numbers.now c.requires.0 3 (lit< tt) (penned-first c.args.out.now c.new.ensures c.requires.1 then c.put_plain-kind.ensures then c.put_signed-x0.ensures then c.put_signed-y0.ensures)

pub put_signed-x1-requires : goal.put_signed-x1-requires
put_signed-x1-requires c =
    ready c.args.layout c.args.numbers.now c.requires.0 4 (lit< tt) (penned-first c.args.out.now c.new.ensures c.requires.1 then c.put_plain-kind.ensures then c.put_signed-x0.ensures then c.put_signed-y0.ensures then c.put_signed-z0.ensures)

pub put_signed-y1-requires : goal.put_signed-y1-requires
put_signed-y1-requires c =
    ready c.args.layout c.args.numbers.now c.requires.0 5 (lit< tt) (penned-first c.args.out.now c.new.ensures c.requires.1 then c.put_plain-kind.ensures then c.put_signed-x0.ensures then c.put_signed-y0.ensures then c.put_signed-z0.ensures then c.put_signed-x1.ensures)

pub put_signed-z1-requires : goal.put_signed-z1-requires
put_signed-z1-requires c =
    ready c.args.layout c.args.numbers.now c.requires.0 6 (lit< tt) (penned-first c.args.out.now c.new.ensures c.requires.1 then c.put_plain-kind.ensures then c.put_signed-x0.ensures then c.put_signed-y0.ensures then c.put_signed-z0.ensures then c.put_signed-x1.ensures then c.put_signed-y1.ensures)

pub put_signed-x2-requires : goal.put_signed-x2-requires
put_signed-x2-requires c =
    ready c.args.layout c.args.numbers.now c.requires.0 7 (lit< tt) (penned-first c.args.out.now c.new.ensures c.requires.1 then c.put_plain-kind.ensures then c.put_signed-x0.ensures then c.put_signed-y0.ensures then c.put_signed-z0.ensures then c.put_signed-x1.ensures then c.put_signed-y1.ensures then c.put_signed-z1.ensures)

pub put_signed-y2-requires : goal.put_signed-y2-requires
put_signed-y2-requires c =
    ready c.args.layout c.args.numbers.now c.requires.0 8 (lit< tt) (penned-first c.args.out.now c.new.ensures c.requires.1 then c.put_plain-kind.ensures then c.put_signed-x0.ensures then c.put_signed-y0.ensures then c.put_signed-z0.ensures then c.put_signed-x1.ensures then c.put_signed-y1.ensures then c.put_signed-z1.ensures then c.put_signed-x2.ensures)

pub put_signed-requires : goal.put_signed-requires
put_signed-requires c =
    ready c.args.layout c.args.numbers.now c.requires.0 9 (lit< tt) (penned-first c.args.out.now c.new.ensures c.requires.1 then c.put_plain-kind.ensures then c.put_signed-x0.ensures then c.put_signed-y0.ensures then c.put_signed-z0.ensures then c.put_signed-x1.ensures then c.put_signed-y1.ensures then c.put_signed-z1.ensures then c.put_signed-x2.ensures then c.put_signed-y2.ensures)

pub returns : goal.returns
unfolding record_bytes
returns c =
    let l = c.args.layout in
    row_done (record_fields l.shape) c.args.numbers.now l.shape.stride (record-narrow l.shape) l.record_full c.requires.0
    (penned-first c.args.out.now c.new.ensures c.requires.1 then c.put_plain-kind.ensures then c.put_signed-x0.ensures then c.put_signed-y0.ensures then c.put_signed-z0.ensures then c.put_signed-x1.ensures then c.put_signed-y1.ensures then c.put_signed-z1.ensures then c.put_signed-x2.ensures then c.put_signed-y2.ensures then c.put_signed.ensures)
    (λ i. omega (arith, c.type_inv.out i))
