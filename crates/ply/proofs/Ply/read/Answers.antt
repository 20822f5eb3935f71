-- `Ply::read`: header, number of faces, length.
use Rattle.std.proofs.Common.{sym, ap, ◌∙◌}
use borrow.Author.Tests.{le-leb, lt-leb}
use Rattle.ply_header.specs.Header.{header}
use Rattle.ply.specs.Body.{taken}
use Rattle.ply.specs.Ply.{said_form}
use Rattle.ply.proofs.Taken.{roomy-same}
use Rattle.ply.proofs.Ply.read.Goals as goal

pub returns-in_err-form-clause-said : goal.returns-in_err-form-clause-said
unfolding taken
returns-in_err-form-clause-said c =
    ap said_form c.from_residual.ensures ∙ rw (sym (roomy-same c.args.file.now (header c.args.file.now)), sym c.in_err-form.ensures)

pub returns-then-form-gt4095-clause-said : goal.returns-then-form-gt4095-clause-said
unfolding taken
returns-then-form-gt4095-clause-said c =
    rw (sym (roomy-same c.args.file.now (header c.args.file.now)), sym c.in_ok-form.ensures, lt-leb _ _ c.if-form-gt4095.true)

pub returns-then-not-body_fits-clause-said : goal.returns-then-not-body_fits-clause-said
unfolding taken
returns-then-not-body_fits-clause-said c =
    rw (
      sym (roomy-same c.args.file.now (header c.args.file.now)),
      sym c.in_ok-form.ensures,
      le-leb _ _ c.if-form-gt4095.false,
      sym c.body_fits.ensures ∙ c.if-not-body_fits.true,
    )

pub invariant_of-result : goal.invariant_of-result
unfolding taken
invariant_of-result c = record {
  whole =
      rw (
        sym (roomy-same c.args.file.now (header c.args.file.now)),
        sym c.in_ok-form.ensures,
        le-leb _ _ c.if-form-gt4095.false,
        sym c.body_fits.ensures ∙ c.if-not-body_fits.false,
      );
}
