-- `frame::check_kinds` meets its contract: every record before the loop's has passed.
use Rattle.std.proofs.Common.{◌≡◌, sym, ap, ◌∙◌, List, ℕ, ltb, lt-ltb, le-ltb}
use Rattle.layout.specs.declared.Layout.{Layout}
use Rattle.layout.specs.Layout.{version1}
use Rattle.layout.specs.Values.{kind_in, from_record}
use Rattle.layout.proofs.Taken.{kind-any}
use Rattle.frame.specs.Questions.{kind_question}
use Rattle.refusal.proofs.Asking.{each_none, each_more, each-no}
use Rattle.frame.proofs.check_kinds.Goals as goal

-- whether the kind that was read is below 3
kind : (l : Layout) (s : List ℕ) (i : ℕ) {part : List ℕ} {k : ℕ} → k ≡ kind_in version1 part → part ≡ from_record l s i
    → ltb (kind_in l (from_record l s i)) 3 ≡ ltb k 3
kind l s i e p = ap (λ (k : ℕ). ltb k 3) (sym (e ∙ ap (kind_in version1) p ∙ kind-any version1 l _))

pub loop-i-init : goal.loop-i-init
loop-i-init c = each_none (kind_question c.args.layout c.args.file.now)

pub returns-then-kind-ge3 : goal.returns-then-kind-ge3
returns-then-kind-ge3 c =
    let k = kind c.args.layout c.args.file.now c.loop-i.i c.read_kind-kind.ensures c.from_record.ensures in
    sym (each-no (kind_question c.args.layout c.args.file.now) c.loop-i.i c.args.count c.loop-i-test.true c.loop-i.invariant (k ∙ le-ltb _ 3 c.if-kind-ge3.true))

pub loop-i-preserved : goal.loop-i-preserved
loop-i-preserved c =
    let k = kind c.args.layout c.args.file.now c.loop-i.i c.read_kind-kind.ensures c.from_record.ensures in
    each_more (kind_question c.args.layout c.args.file.now) c.loop-i.i c.loop-i.invariant (k ∙ lt-ltb _ 3 c.if-kind-ge3.false)
