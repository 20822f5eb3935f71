-- `frame_write::check` meets its contract: the questions in turn, up to the first "no".
use Rattle.std.proofs.Common.{List, Bool, ℤ, ◌≡◌, refl, sym, ap, ◌∙◌}
use Rattle.std.proofs.lemmas.Bool.{lt-leb, le-leb, eq-eqb, ne_eqb}
use Rattle.layout.specs.declared.Layout.{Layout}
use Rattle.refusal.specs.Questions.{answered}
use Rattle.writable.specs.Fits.{header_fits}
use Rattle.frame_write.specs.Write.{triangle_count}
use Rattle.frame_write.proofs.Asked.{too_many}
use Rattle.frame_write.proofs.check.Goals as goal

-- what the test of the header says
header : (l : Layout) {ns ms : List ℤ} {r : Bool} → ns ≡ ms → r ≡ header_fits l ns → r ≡ header_fits l ms
header l n e = e ∙ ap (header_fits l) n

pub returns-then-count-gt4095 : goal.returns-then-count-gt4095
unfolding answered
returns-then-count-gt4095 c = rw (too_many c.args.layout.shape c.args.grid (triangle_count c.args.triangles.now) c.if-count-gt4095.true) refl

pub returns-then-not-header_fits : goal.returns-then-not-header_fits
unfolding answered
returns-then-not-header_fits c = rw (sym (header c.args.layout.shape c.header_numbers.ensures c.header_fits.ensures) ∙ c.if-not-header_fits.true) refl

pub returns-then-triangles-ne0 : goal.returns-then-triangles-ne0
unfolding answered
returns-then-triangles-ne0 c =
    rw (sym (header c.args.layout.shape c.header_numbers.ensures c.header_fits.ensures) ∙ c.if-not-header_fits.false, ne_eqb _ _ c.if-triangles-ne0.true) refl

pub returns-then-not-triangles_fit : goal.returns-then-not-triangles_fit
unfolding answered
returns-then-not-triangles_fit c =
    rw (
      sym (header c.args.layout.shape c.header_numbers.ensures c.header_fits.ensures) ∙ c.if-not-header_fits.false,
      eq-eqb _ _ c.if-triangles-ne0.false,
      sym c.triangles_fit.ensures ∙ c.if-not-triangles_fit.true,
    ) refl

pub returns-then-room-record_start : goal.returns-then-room-record_start
unfolding answered
returns-then-room-record_start c =
    let short = rw c.record_start.ensures at c.if-room-record_start.true in
    rw (
      sym (header c.args.layout.shape c.header_numbers.ensures c.header_fits.ensures) ∙ c.if-not-header_fits.false,
      eq-eqb _ _ c.if-triangles-ne0.false,
      sym c.triangles_fit.ensures ∙ c.if-not-triangles_fit.false,
      lt-leb _ _ short,
    ) refl

pub returns : goal.returns
unfolding answered
returns c =
    let enough = rw c.record_start.ensures at c.if-room-record_start.false in
    rw (
      sym (header c.args.layout.shape c.header_numbers.ensures c.header_fits.ensures) ∙ c.if-not-header_fits.false,
      eq-eqb _ _ c.if-triangles-ne0.false,
      sym c.triangles_fit.ensures ∙ c.if-not-triangles_fit.false,
      le-leb _ _ enough,
    ) refl
