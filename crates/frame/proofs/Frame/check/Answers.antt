-- `Frame::check` meets its contract: the questions of the header, and then those of the records.
use Rattle.std.proofs.Common.{◌≡◌, sym, ap, ◌∙◌, List, ℕ, le_of_eq}
use Rattle.layout.specs.declared.Layout.{Layout}
use Rattle.layout.specs.declared.HeaderFields.{HeaderFields}
use Rattle.layout.specs.Layout.{version1}
use Rattle.layout.specs.Values.{header_in}
use Rattle.layout.specs.Taken.{BoundedHeader, ReadHeader}
use Rattle.layout.proofs.Bounds.{header-bounded}
use Rattle.refusal.specs.Limit.{gives}
use Rattle.refusal.specs.Questions.{of_each}
use Rattle.refusal.specs.Inner.{asked}
use Rattle.refusal.proofs.Asking.{and_then}
use Rattle.frame.specs.File.{header_of}
use Rattle.frame.specs.Questions.{header_questions, kind_question, checked}
use Rattle.frame.proofs.Accepted.{checked-by, header-passed, check-err}
use Rattle.frame.proofs.Frame.check.Goals as goal

-- the layout and the header, as they are named in the contract
module _ {l : Layout} {s : List ℕ} {f : HeaderFields} (v : l ≡ version1) (r : ReadHeader l s f) where
  header : f.header ≡ header_of s
  header = r.header ∙ ap (λ (l : Layout). header_in l s) v

  bounded : BoundedHeader f.header
  bounded = rw header (header-bounded version1 s)

  -- what the two parts of the check say
  by : checked s ≡ and_then (and_then (asked (header_questions l f.header s)) (asked (of_each (kind_question l s) f.header.count))) (gives f.header)
  by = rw (v, header) (checked-by s)

pub check_header-requires : goal.check_header-requires
check_header-requires c =
    let v = c.version_1-layout.ensures in
    let r = c.read_header-fields.ensures in
    (bounded v r, r.reserved)

pub returns-in_err-check_header-clause-said : goal.returns-in_err-check_header-clause-said
returns-in_err-check_header-clause-said c =
    check-err _ _ c.from_residual.ensures.1 ∙ sym (by c.version_1-layout.ensures c.read_header-fields.ensures ∙ rw (← c.in_err-check_header.ensures))

pub check_kinds-requires : goal.check_kinds-requires
check_kinds-requires c =
    let v = c.version_1-layout.ensures in
    let r = c.read_header-fields.ensures in
    let all = header-passed c.version_1-layout.result c.read_header-fields.result.header c.args.file.now (sym c.in_ok-check_header.ensures) in
    ((bounded v r).count, le_of_eq (sym all.whole))

pub returns-in_err-check_kinds-clause-said : goal.returns-in_err-check_kinds-clause-said
returns-in_err-check_kinds-clause-said c =
    check-err _ _ c.from_residual-in_err-check_kinds.ensures.1
    ∙ sym (by c.version_1-layout.ensures c.read_header-fields.ensures ∙ rw (← c.in_ok-check_header.ensures, ← c.in_err-check_kinds.ensures))

pub invariant_of-result : goal.invariant_of-result
invariant_of-result c = record {
  accepted = by c.version_1-layout.ensures c.read_header-fields.ensures ∙ rw (← c.in_ok-check_header.ensures, ← c.in_ok-check_kinds.ensures);
}
