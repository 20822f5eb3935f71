-- `scan::scan`: it is refused, or gives its file, as the questions say.
use Rattle.std.proofs.Common.{◌≡◌, List, ℕ, sym, ap, ◌∙◌, subst}
use Rattle.refusal.specs.Limit.{Answer, gives}
use Rattle.refusal.proofs.Said.{said-err}
use Rattle.frame_write.specs.declared.GridValues.{GridValues}
use Rattle.ply.proofs.Taken.{sized}
use Rattle.scan.proofs.Outcome.{Promise, no-grid, no-form, no, yes}
use Rattle.scan.proofs.scan.Goals as goal

-- the file that was read is the file that was lent
moved : (g : GridValues) (old : List ℕ) {s t : List ℕ} {a : Answer ℕ} {new : List ℕ} → s ≡ t → Promise g s old a new → Promise g t old a new
moved g old {a = a} {new} e p = subst (λ (s : List ℕ). Promise g s old a new) e p

pub returns-then-not-grid_fits : goal.returns-then-not-grid_fits
returns-then-not-grid_fits c = no-grid c.args.grid c.args.ply.now c.args.out.now (sym c.grid_fits.ensures ∙ c.if-not-grid_fits.true)

pub returns-in_default : goal.returns-in_default
returns-in_default c =
    no-form c.args.grid c.args.ply.now c.args.out.now (sym c.grid_fits.ensures ∙ c.if-not-grid_fits.false) (sym c.in_default.ensures.said)

pub returns-in_err-check : goal.returns-in_err-check
returns-in_err-check c =
    let a = c.args in
    let p = c.in-Some.taken in
    let refused =
    moved a.grid a.out.now c.in-Some.ensures.same
    (no a.grid p.file.now a.out.now (sym c.grid_fits.ensures ∙ c.if-not-grid_fits.false) p.form p.whole (sized _ _ p.whole).faces (sym c.in_err-check.ensures)) in
    (said-err _ _ c.from_residual.ensures.1 ∙ refused.0, refused.1)

pub put_file-requires : goal.put_file-requires
put_file-requires c = (
  sym c.grid_fits.ensures ∙ c.if-not-grid_fits.false,
  record { form = c.in-Some.taken.whole; yes = sym c.in_ok-check.ensures },
)

pub returns : goal.returns
returns c =
    let a = c.args in
    let p = c.in-Some.taken in
    let given =
    yes a.grid p.file.now a.out.now (sym c.grid_fits.ensures ∙ c.if-not-grid_fits.false) p.form p.whole (sized _ _ p.whole).faces (sym c.in_ok-check.ensures) in
    moved a.grid a.out.now c.in-Some.ensures.same (ap gives c.put_file.ensures.0 ∙ given.0, c.put_file.ensures.1 ∙ given.1)
