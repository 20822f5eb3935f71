-- `route::Route::point`: three numbers from 3 × m on.
use Rattle.std.proofs.Common.{◌≡◌, sym, ◌∙◌, ◌+◌, ◌*◌, to_z, of_z, w64, slice_index_or, pos, rules}
use Rattle.integers.proofs.Machine.{back}
use Rattle.geometry.specs.Geometry.{point}
use Rattle.layout.specs.Values.{point_from}
use Rattle.demand.proofs.Points.{point-is}
use Rattle.route.proofs.Route.point.Goals as goal

pub returns : goal.returns
returns c =
    let ns = c.args.self.now.numbers.now in
    let m = c.args.m in
    let x : c.from.result ≡ slice_index_or ns (3 * m) (pos 0) = search rules in
    let y : c.from-2.result ≡ slice_index_or ns (3 * m + 1) (pos 0) = search rules in
    let z : c.from-3.result ≡ slice_index_or ns (3 * m + 2) (pos 0) = search rules in
    let read : point (to_z w64 (of_z w64 c.from.result)) (to_z w64 (of_z w64 c.from-2.result)) (to_z w64 (of_z w64 c.from-3.result)) ≡ point_from ns (3 * m) =
    λ t. record { x = ◌∙◌ (back w64 c.from.type_inv) x t; y = ◌∙◌ (back w64 c.from-2.type_inv) y t; z = ◌∙◌ (back w64 c.from-3.type_inv) z t } in
    read ∙ sym (point-is ns m c.requires)
