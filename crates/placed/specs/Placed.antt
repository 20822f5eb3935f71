-- A triangle placed in a lattice, with the axes in some turn. Definitions only.
use Rattle.geometry.specs.declared.Triangle.{Triangle}
use Rattle.geometry.specs.Inner.{measured_from}
use Rattle.overlap.specs.Rule.{normal}
use Rattle.grid.specs.declared.Grid.{Grid}
use Rattle.grid.specs.declared.Lattice.{Lattice}
use Rattle.grid.specs.declared.BoxRange.{BoxRange}
use Rattle.column_rule.specs.Turn.{turn_point, turn_triangle, turn_box}
use Rattle.placed.specs.declared.Placed.{Placed}
use Rattle.placed.specs.Numbering.{strides_of, turn_strides}

-- The triangle t of a grid whose cells have the boxes l, placed with its columns along z.
abbrev pub placed_in : Grid → Lattice → BoxRange → Triangle → Placed
placed_in g l b t = let m = measured_from l.first t in record { t = m; n = normal m; s = strides_of g; b = b }

-- A placed triangle, with the axes taken in turn.
abbrev pub turn_placed : Placed → Placed
turn_placed p = record { t = turn_triangle p.t; n = turn_point p.n; s = turn_strides p.s; b = turn_box p.b }
