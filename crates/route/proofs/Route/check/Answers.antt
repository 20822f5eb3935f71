-- `route::Route::check`: the questions in turn, up to the first "no".
use Rattle.std.proofs.Common.{ℕ, sym, ap, ◌∙◌}
use borrow.Author.Tests.{lt-leb, le-leb, eq-eqb, ne_eqb}
use Rattle.refusal.specs.Questions.{of_each}
use Rattle.refusal.specs.Inner.{asked}
use Rattle.refusal.proofs.Asking.{stopped, through}
use Rattle.map.specs.Map.{map_length}
use Rattle.demand.specs.Route.{points_of, point_question}
use Rattle.demand.proofs.Points.{points-length}
use Rattle.route.proofs.Route.check.Goals as goal

pub cell_count-n-requires : goal.cell_count-n-requires
cell_count-n-requires c = let w = c.args.self.now.usable.within in (w.x.most, w.y.most, w.z.most)

pub returns-then-len-map_length : goal.returns-then-len-map_length
returns-then-len-map_length c =
    let long = c.map_length.ensures ∙ ap map_length c.cell_count-n.ensures.0 in
    sym (stopped _ _ _ (lt-leb _ _ (rw long at c.if-len-map_length.true)))

pub returns-then-count-lt2 : goal.returns-then-count-lt2
returns-then-count-lt2 c =
    let long = c.map_length.ensures ∙ ap map_length c.cell_count-n.ensures.0 in
    sym (through _ _ _ (le-leb _ _ (rw long at c.if-len-map_length.false)) ∙ stopped _ _ _ (rw (lt-leb 2 _ c.if-count-lt2.true)))

pub returns-then-count-gt64 : goal.returns-then-count-gt64
returns-then-count-gt64 c =
    let long = c.map_length.ensures ∙ ap map_length c.cell_count-n.ensures.0 in
    sym (through _ _ _ (le-leb _ _ (rw long at c.if-len-map_length.false))
    ∙ stopped _ _ _ (rw (le-leb 2 _ c.if-count-lt2.false, lt-leb _ 64 c.if-count-gt64.true)))

pub returns-then-self-ne0 : goal.returns-then-self-ne0
returns-then-self-ne0 c =
    let long = c.map_length.ensures ∙ ap map_length c.cell_count-n.ensures.0 in
    sym (through _ _ _ (le-leb _ _ (rw long at c.if-len-map_length.false))
    ∙ stopped _ _ _ (rw (le-leb 2 _ c.if-count-lt2.false, le-leb _ 64 c.if-count-gt64.false, ne_eqb _ 0 c.if-self-ne0.true)))

pub returns : goal.returns
returns c =
    let r = c.args.self.now in
    let long = c.map_length.ensures ∙ ap map_length c.cell_count-n.ensures.0 in
    c.check_points.ensures
    ∙ ap (λ (n : ℕ). asked (of_each (point_question r.g (points_of r.numbers.now)) n)) (sym (points-length r.numbers.now))
    ∙ sym (through _ _ _ (le-leb _ _ (rw long at c.if-len-map_length.false))
    ∙ through _ _ _ (rw (le-leb 2 _ c.if-count-lt2.false, le-leb _ 64 c.if-count-gt64.false, eq-eqb _ 0 c.if-self-ne0.false)))
