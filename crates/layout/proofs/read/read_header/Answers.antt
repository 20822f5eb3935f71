-- `layout::read_header` meets its contract: each field starts where the one before it ends.
use Rattle.std.proofs.Common.{rules, ap, ◌∙◌, pos, w64}
use mir.Facts.{to_z-of_z}
use Rattle.layout.specs.Values.{header_in, reserved_in}
use Rattle.layout.proofs.read.read_header.Goals as goal

pub returns : goal.returns
unfolding header_in reserved_in
returns c =
    let version = rw c.new.ensures at c.take-version.ensures in
    let nx = rw version.behind at c.take_cells-nx.ensures in
    let ny = rw nx.behind at c.take_cells-ny.ensures in
    let nz = rw ny.behind at c.take_cells-nz.ensures in
    let edge = rw nz.behind at c.take-edge.ensures in
    let origin = rw edge.behind at c.take_point.ensures in
    let count = rw origin.behind at c.take-count.ensures in
    let reserved = rw count.behind at c.take-reserved.ensures in
    let edge_is = to_z-of_z {w = w64} (search rules) ∙ c.from.ensures ∙ ap pos edge.value in
    record {
      header = λ i. record {
        version = version.value i;
        grid = record { nx = nx.value i; ny = ny.value i; nz = nz.value i; edge = edge_is i; origin = origin.value i };
        count = count.value i;
      };
      reserved = reserved.value;
    }
