-- `frame_write::put_records` meets its contract: record by record, each behind the one before.
use Rattle.std.proofs.Common.{List, ℕ, ℤ, ◌≡◌, ◌++◌, ◌+◌, ◌-◌, ◌*◌, ap, ◌∙◌, length, take, drop, arith}
use mathlib.Core.Bool.{and-eq-true_iff}
use Rattle.layout.specs.Layout.{version1, record_fields, record_start}
use Rattle.layout_write.specs.Writing.{can_hold_all, record_bytes}
use Rattle.writable.specs.Fits.{triangle_numbers}
use Rattle.writable.proofs.All.{all-at}
use Rattle.frame_write.proofs.Pieces.{fill_none, fill-room, fill_more, length-record}
use Rattle.frame_write.proofs.put_records.Invariants.{bytes}
use Rattle.frame_write.proofs.put_records.Goals as goal

sized : (zs : List ℤ) (i : ℕ) → length (bytes zs i) ≡ 16
sized zs i = length-record version1 (triangle_numbers zs i)

pub loop-i-init : goal.loop-i-init
loop-i-init c = fill_none

pub put_at-requires : goal.put_at-requires
put_at-requires c =
    let zs = c.args.triangles.now in
    let i = c.loop-i.i in
    let ten : i * 10 + 10 - i * 10 ≡ 10 = omega arith in
    let fits = (and-eq-true_iff (can_hold_all (record_fields version1) (triangle_numbers zs i)) _).0 (all-at _ c.args.count c.requires.3 i c.loop-i-test.true) in
    (omega (arith, c.loop-i-test.true, c.requires.0), rw ten fits.0, fill-room (sized zs) c.requires.2 c.loop-i.invariant c.loop-i-test.true)

pub loop-i-preserved : goal.loop-i-preserved
loop-i-preserved c =
    let zs = c.args.triangles.now in
    let i = c.loop-i.i in
    let out = c.loop-i.out in
    let ten : i * 10 + 10 - i * 10 ≡ 10 = omega arith in
    fill_more (sized zs) c.requires.2 c.loop-i.invariant c.loop-i-test.true
    (c.put_at.ensures ∙ ap (λ (m : ℕ). take (record_start version1 i) out ++ (record_bytes version1 (take m (drop (i * 10) zs)) ++ drop 16 (drop (record_start version1 i) out))) ten)
