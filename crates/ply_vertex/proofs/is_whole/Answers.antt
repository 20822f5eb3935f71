-- `ply_vertex::is_whole`: what is not a number is told first.
use Rattle.std.proofs.Common.{not, sym, ap, ◌∙◌}
use Rattle.ply_vertex.proofs.Patterns.{nan-no}
use Rattle.ply_vertex.proofs.is_whole.Goals as goal

pub returns-else-not-is_nan : goal.returns-else-not-is_nan
returns-else-not-is_nan c =
    ap not c.if-not-is_nan.false ∙ nan-no c.args.s.now c.args.at c.args.t (sym c.is_nan.ensures ∙ c.if-not-is_nan.false)
