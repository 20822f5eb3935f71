-- `stall::write_both`: the header's numbers and behind them the record's are at the start of `out`, or it is as it came.
use Rattle.std.proofs.Common.{List, ◌++◌, ◌-◌, ℤ, length, drop, refl, ap, ap₂, ◌∙◌, arith}
use borrow.Rule.Slice.PartMut.{mid_of, put_mid}
use borrow.Author.Tests.{le-leb, lt-leb}
use Rattle.numbers.specs.Numbers.{header_numbers, record_numbers}
use Rattle.stall.proofs.Behind.{put-behind}
use Rattle.stall.proofs.write_both.Goals as goal

-- a list with ys in the place of all numbers behind the ninth, and the second copy over those
abbrev put : List ℤ → List ℤ → List ℤ
put l ys = put_mid 9 (length l - 9) l ys

abbrev second-list : List ℤ → List ℤ → List ℤ
second-list r l = r ++ drop (length r) (mid_of 9 (length l - 9) l)

pub returns-then-out-lt19 : goal.returns-then-out-lt19
returns-then-out-lt19 c = rw (lt-leb 19 (length c.args.out.now) (omega (arith, c.if-out-lt19.true))) (c.pack.ensures, refl)

pub returns : goal.returns
returns c =
    let o = c.args.out.now in
    rw (le-leb 19 (length o) (omega (arith, c.if-out-lt19.false))) (
      c.pack-2.ensures,
      ap (λ (ys : List ℤ). put c.copy.new.out ys) c.copy-2.ensures
          ∙ ap (λ (l : List ℤ). put l (second-list c.record_numbers.result l)) c.copy.ensures
          ∙ ap₂ (λ (h r : List ℤ). put (h ++ drop (length h) o) (second-list r (h ++ drop (length h) o)))
          c.header_numbers.ensures c.record_numbers.ensures
          ∙ put-behind (header_numbers c.args.header) (record_numbers c.args.rec) o 9 refl,
    )
