-- `frame_write::put_at` meets its contract: the part of the output is there, and takes the record's bytes.
use Rattle.std.proofs.Common.{rules, ◌≡◌, true, sym, ◌-◌, ◌+◌, length, take, drop, subst}
use Rattle.layout.specs.declared.Layout.{Layout}
use Rattle.layout.specs.Layout.{record_fields}
use Rattle.layout_write.specs.Writing.{can_hold_all}
use Rattle.frame_write.proofs.Pieces.{length_part}
use Rattle.frame_write.proofs.put_at.Goals as goal

pub put_record-requires : goal.put_record-requires
put_record-requires c =
    let r = c.record_start-start.result in
    let s = c.args.out.now in
    subst (λ (l : Layout). (can_hold_all (record_fields l) c.args.numbers.now ≡ true) × (length (take (r + 16 - r) (drop r s)) ≡ l.stride))
    (sym c.version_1-layout.ensures)
    (c.requires.1, length_part r 16 s (search rules))
