-- `frame::check_header` meets its contract: the questions in turn, up to the first "no".
use Rattle.std.proofs.Common.{rules, Bool, FitsSigned, ◌≡◌, sym, ap, ◌∙◌, lit<, ℤ, pos, w64, to_z, of_z}
use Rattle.std.proofs.lemmas.Bool.{lt-leb, le-leb, eq-eqb, ne_eqb}
use mir.Facts.{to_z-of_z}
use Rattle.integers.proofs.Bounds.{within-fits}
use Rattle.integers.proofs.Omega.{le-true, le-false, true-lt, false-lt}
use Rattle.grid.specs.declared.Grid.{Grid}
use Rattle.layout.specs.declared.Header.{Header}
use Rattle.layout.specs.Taken.{BoundedHeader}
use Rattle.refusal.specs.Questions.{answered}
use Rattle.frame.specs.Questions.{extent_fits}
use Rattle.frame.proofs.check_header.Goals as goal

-- the edge, as the machine reads it back
edge-back : {h : Header} → BoundedHeader h → to_z w64 (of_z w64 h.grid.edge) ≡ h.grid.edge
edge-back b = to_z-of_z {w = w64} (within-fits (lit< tt) b.grid.edge)

pub returns-then-file-layout : goal.returns-then-file-layout
unfolding answered
returns-then-file-layout c = rw (lt-leb _ _ c.if-file-layout.true)

pub returns-then-header-ne1 : goal.returns-then-header-ne1
unfolding answered
returns-then-header-ne1 c = rw (le-leb _ _ c.if-file-layout.false, ne_eqb _ _ c.if-header-ne1.true)

pub returns-then-g-le0 : goal.returns-then-g-le0
unfolding answered
returns-then-g-le0 c =
    let h = c.args.header.grid.edge in
    rw (le-leb _ _ c.if-file-layout.false, eq-eqb _ _ c.if-header-ne1.false, false-lt (pos 0) h (le-true h (pos 0) (rw (edge-back c.requires.0) at c.if-g-le0.true)))

pub returns-then-reserved-ne0 : goal.returns-then-reserved-ne0
unfolding answered
returns-then-reserved-ne0 c =
    let h = c.args.header.grid.edge in
    let no4 = ne_eqb _ 0 (λ e. c.if-reserved-ne0.true (c.requires.1 ∙ e)) in
    rw (le-leb _ _ c.if-file-layout.false, eq-eqb _ _ c.if-header-ne1.false, true-lt (pos 0) h (le-false h (pos 0) (rw (edge-back c.requires.0) at c.if-g-le0.false)), no4)

-- the extent's answer
extent : (g : Grid) {f : ℤ} {r : Bool} → FitsSigned w64 f → r ≡ extent_fits (to_z w64 (of_z w64 f)) g → r ≡ extent_fits f g
extent g h e = e ∙ ap (λ (f : ℤ). extent_fits f g) (to_z-of_z {w = w64} h)

pub returns-then-not-extent_fits : goal.returns-then-not-extent_fits
unfolding answered
returns-then-not-extent_fits c =
    let h = c.args.header.grid.edge in
    rw (
      le-leb _ _ c.if-file-layout.false,
      eq-eqb _ _ c.if-header-ne1.false,
      true-lt (pos 0) h (le-false h (pos 0) (rw (edge-back c.requires.0) at c.if-g-le0.false)),
      eq-eqb _ _ (sym c.requires.1 ∙ c.if-reserved-ne0.false),
      sym (extent c.args.header.grid {f = c.args.layout.farthest} (search rules) c.extent_fits.ensures) ∙ c.if-not-extent_fits.true,
    )

pub returns-then-file-record_start : goal.returns-then-file-record_start
unfolding answered
returns-then-file-record_start c =
    let h = c.args.header.grid.edge in
    rw (
      le-leb _ _ c.if-file-layout.false,
      eq-eqb _ _ c.if-header-ne1.false,
      true-lt (pos 0) h (le-false h (pos 0) (rw (edge-back c.requires.0) at c.if-g-le0.false)),
      eq-eqb _ _ (sym c.requires.1 ∙ c.if-reserved-ne0.false),
      sym (extent c.args.header.grid {f = c.args.layout.farthest} (search rules) c.extent_fits.ensures) ∙ c.if-not-extent_fits.false,
      ne_eqb _ _ (λ e. c.if-file-record_start.true (e ∙ sym c.record_start.ensures)),
    )

pub returns : goal.returns
unfolding answered
returns c =
    let h = c.args.header.grid.edge in
    rw (
      le-leb _ _ c.if-file-layout.false,
      eq-eqb _ _ c.if-header-ne1.false,
      true-lt (pos 0) h (le-false h (pos 0) (rw (edge-back c.requires.0) at c.if-g-le0.false)),
      eq-eqb _ _ (sym c.requires.1 ∙ c.if-reserved-ne0.false),
      sym (extent c.args.header.grid {f = c.args.layout.farthest} (search rules) c.extent_fits.ensures) ∙ c.if-not-extent_fits.false,
      eq-eqb _ _ (c.if-file-record_start.false ∙ c.record_start.ensures),
    )
