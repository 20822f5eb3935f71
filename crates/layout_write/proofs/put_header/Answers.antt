-- `layout_write::put_header` meets its contract: the ten numbers of a header, one behind the other.
use Rattle.std.proofs.Common.{◌≡◌, true, List, ℕ, ◌<◌, ◌+◌, ◌*◌, ◌^◌, ℤ, lit<, arith}
use lib.ListN.{get_or}
use Rattle.bits.specs.declared.Pen.{Pen}
use Rattle.bits.specs.Inner.{Put}
use Rattle.layout_write.specs.declared.WritableLayout.{WritableLayout}
use Rattle.layout.specs.Layout.{field, plain, header_fields}
use Rattle.layout_write.specs.Writing.{can_hold_all, header_bytes}
use Rattle.layout_write.specs.Put.{Puttable}
use Rattle.layout_write.proofs.Penned.{Penned, penned-first, penned-more}
use Rattle.layout_write.proofs.Rows.{Row, next, row_done, header-narrow}
use Rattle.layout_write.proofs.put_header.Goals as goal

-- where the first k numbers have been put, number k can be
ready : (l : WritableLayout) (ns : List ℤ) → can_hold_all (header_fields l.shape) ns ≡ true → (k : ℕ) {t : List ℕ} {p : Pen} → k < 10
    → Row (header_fields l.shape) ns l.shape.header k t p → Puttable t p (get_or (header_fields l.shape) k (field plain 0)) ns k
ready l ns held k = next (header_fields l.shape) ns l.shape.header (header-narrow l.shape) l.header_full held k

-- one number more
infixl 4 ◌then◌
◌then◌ : {K N len w v : ℕ} {s new : List ℕ} {p r : Pen} → Penned K N s len p → Put s p w v new r → Penned (K + w) (N * 2 ^ w + v) new len r
d then t = penned-more d t

pub put_signed-x-requires : goal.put_signed-x-requires
put_signed-x-requires c =
    ready c.args.layout c.args.numbers.now c.requires.0 5 (lit< tt) (penned-first c.args.out.now c.new.ensures c.requires.1 then c.put_plain-version.ensures then c.put_less_one-nx.ensures then c.put_less_one-ny.ensures then c.put_less_one-nz.ensures then c.put_plain-edge.ensures)

pub put_signed-y-requires : goal.put_signed-y-requires
put_signed-y-requires c =
    ready c.args.layout c.args.numbers.now c.requires.0 6 (lit< tt) (penned-first c.args.out.now c.new.ensures c.requires.1 then c.put_plain-version.ensures then c.put_less_one-nx.ensures then c.put_less_one-ny.ensures then c.put_less_one-nz.ensures then c.put_plain-edge.ensures then c.put_signed-x.ensures)

pub put_signed-z-requires : goal.put_signed-z-requires
put_signed-z-requires c =
    ready c.args.layout c.args.numbers.now c.requires.0 7 (lit< tt) (penned-first c.args.out.now c.new.ensures c.requires.1 then c.put_plain-version.ensures then c.put_less_one-nx.ensures then c.put_less_one-ny.ensures then c.put_less_one-nz.ensures then c.put_plain-edge.ensures then c.put_signed-x.ensures then c.put_signed-y.ensures)

pub put_plain-count-requires : goal.put_plain-count-requires
put_plain-count-requires c =
    ready c.args.layout c.args.numbers.now c.requires.0 8 (lit< tt) (penned-first c.args.out.now c.new.ensures c.requires.1 then c.put_plain-version.ensures then c.put_less_one-nx.ensures then c.put_less_one-ny.ensures then c.put_less_one-nz.ensures then c.put_plain-edge.ensures then c.put_signed-x.ensures then c.put_signed-y.ensures then c.put_signed-z.ensures)

pub put_plain-requires : goal.put_plain-requires
put_plain-requires c =
    ready c.args.layout c.args.numbers.now c.requires.0 9 (lit< tt) (penned-first c.args.out.now c.new.ensures c.requires.1 then c.put_plain-version.ensures then c.put_less_one-nx.ensures then c.put_less_one-ny.ensures then c.put_less_one-nz.ensures then c.put_plain-edge.ensures then c.put_signed-x.ensures then c.put_signed-y.ensures then c.put_signed-z.ensures then c.put_plain-count.ensures)

pub returns : goal.returns
unfolding header_bytes
returns c =
    let l = c.args.layout in
    row_done (header_fields l.shape) c.args.numbers.now l.shape.header (header-narrow l.shape) l.header_full c.requires.0
    (penned-first c.args.out.now c.new.ensures c.requires.1 then c.put_plain-version.ensures then c.put_less_one-nx.ensures then c.put_less_one-ny.ensures then c.put_less_one-nz.ensures then c.put_plain-edge.ensures then c.put_signed-x.ensures then c.put_signed-y.ensures then c.put_signed-z.ensures then c.put_plain-count.ensures then c.put_plain.ensures)
    (λ i. omega (arith, c.type_inv.out i))
