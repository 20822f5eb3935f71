-- `frame_write::write` meets its contract: it is refused, or gives its file, as the questions say.
use Rattle.std.proofs.Common.{List, ℕ, ℤ, ◌≡◌, sym, ap, ◌∙◌, length}
use Rattle.refusal.specs.Limit.{gives}
use Rattle.refusal.specs.Inner.{Passing, asked}
use Rattle.refusal.proofs.Said.{said-err}
use Rattle.layout.specs.declared.Layout.{Layout}
use Rattle.layout.specs.Layout.{version1}
use Rattle.frame_write.specs.declared.GridValues.{GridValues}
use Rattle.frame_write.specs.Write.{write_questions}
use Rattle.frame_write.proofs.Asked.{write-refused, write-given}
use Rattle.frame_write.proofs.write.Goals as goal

-- what the questions say of the layout of version 1
asked_by : (g : GridValues) (zs : List ℤ) (room : ℕ) {l : Layout} {v : Passing} → l ≡ version1 → v ≡ asked (write_questions l g zs room)
    → asked (write_questions version1 g zs room) ≡ v
asked_by g zs room k e = sym (e ∙ ap (λ (l : Layout). asked (write_questions l g zs room)) k)

pub returns-in_err-check : goal.returns-in_err-check
returns-in_err-check c =
    let a = c.args in
    let refused = write-refused a.grid a.triangles.now a.out.now (asked_by a.grid a.triangles.now (length a.out.now) c.version_1.ensures c.in_err-check.ensures) in
    (said-err _ _ c.from_residual.ensures.1 ∙ refused.0, refused.1)

pub returns : goal.returns
returns c =
    let a = c.args in
    let given = write-given a.grid a.triangles.now a.out.now (asked_by a.grid a.triangles.now (length a.out.now) c.version_1.ensures c.in_ok-check.ensures) in
    (ap gives c.put_file.ensures.0 ∙ given.0, c.put_file.ensures.1 ∙ given.1)
