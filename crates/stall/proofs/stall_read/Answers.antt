-- `stall::stall_read`: the reading's numbers, and its answer packed.
use Rattle.std.proofs.Common.{◌≡◌, ℕ, List, ℤ, length, sym, subst}
use Prim.Native.Nat.{zero-le}
use borrow.Author.Tests.{le-leb}
use Rattle.refusal.specs.Limit.{Answer, gives}
use Rattle.std.specs.Prelude.{Option}
use Rattle.layout.specs.declared.Record.{Record}
use Rattle.frame.specs.declared.Reading.{Reading}
use Rattle.frame.specs.Questions.{reading}
use Rattle.numbers.specs.Numbers.{read_numbers, written}
use Rattle.numbers.proofs.Readings.{SmallReading, small-reading}
use Rattle.stall.specs.Calls.{roomed, packed_reading, unpacked_reading}
use Rattle.stall.proofs.Answers.{taken}
use Rattle.stall.proofs.stall_read.Goals as goal

-- the reading, where it found a record, or none
with : {v : Reading} {o : Option Record} {q : Answer Reading} → v.found ≡ o → gives v ≡ q → gives (record { header = v.header; found = o }) ≡ q
with {v} f e = rw (← f) e

pub write_both-requires : goal.write_both-requires
write_both-requires c = subst SmallReading (sym (with c.in-Some.is c.in-Ok.ensures)) (small-reading c.args.file.now c.args.i)

pub write_header-requires : goal.write_header-requires
write_header-requires c = (subst SmallReading (sym (with c.in-None.is c.in-Ok.ensures)) (small-reading c.args.file.now c.args.i)).0

-- an arm's answer and its numbers, packed
packs : (file : List ℕ) (i : ℕ) (old : List ℤ) {q : Answer Reading} {r : ℕ} {new : List ℤ}
    → (r ≡ packed_reading (roomed q (length old))) × (new ≡ written (read_numbers q) old) → q ≡ reading file i
    → (r ≡ packed_reading (roomed (reading file i) (length old))) × (unpacked_reading r new ≡ roomed (reading file i) (length old)) × (new ≡ written (read_numbers (reading file i)) old)
packs file i old p e = let both = rw e at p in (both.0, taken file i old both, both.1)

pub returns-in-Some : goal.returns-in-Some
returns-in-Some c = packs c.args.file.now c.args.i c.args.out.now c.write_both.ensures (with c.in-Some.is c.in-Ok.ensures)

pub returns-in-None : goal.returns-in-None
returns-in-None c = packs c.args.file.now c.args.i c.args.out.now c.write_header.ensures (with c.in-None.is c.in-Ok.ensures)

pub returns-in-Err : goal.returns-in-Err
returns-in-Err c =
    let o = c.args.out.now in
    packs c.args.file.now c.args.i o (c.pack_limit.ensures, rw (le-leb 0 (length o) zero-le)) c.in-Err.ensures
