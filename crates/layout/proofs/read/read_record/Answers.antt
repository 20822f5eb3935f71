-- `layout::read_record` meets its contract: the corners stand one behind the other.
use Rattle.std.proofs.Common.{ℕ, ◌+◌, ◌*◌, ap, ◌∙◌, arith}
use Rattle.geometry.specs.declared.Point.{Point}
use Rattle.layout.specs.Values.{kind_in}
use Rattle.layout.specs.Taken.{point_in}
use Rattle.layout.proofs.Taken.{record-taken}
use Rattle.layout.proofs.read.read_record.Goals as goal

pub returns : goal.returns
unfolding kind_in
returns g c =
    let w = c.args.layout.coordinate in
    let at : ℕ → Point = λ n. point_in (g.S.Source.bytes c.args.part) n w in
    let kind = rw c.new.ensures at c.take-kind.ensures in
    let v0 = rw kind.behind at c.take_point-behind_v0.ensures in
    let v1 = rw v0.behind at c.take_point-behind_v1.ensures in
    let v2 = rw v1.behind at c.take_point.ensures in
    record-taken c.args.layout _ kind.value v0.value (v1.value ∙ ap at {y = 2 + 3 * w} (omega arith)) (v2.value ∙ ap at {y = 2 + 6 * w} (omega arith))
