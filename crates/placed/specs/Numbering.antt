-- How a grid's cells are numbered, the columns along z; and with the axes taken in turn. Definitions only.
use Rattle.std.specs.Prelude.{◌*◌}
use Rattle.grid.specs.declared.Grid.{Grid}
use Rattle.columns.specs.declared.Strides.{Strides}

abbrev pub strides_of : Grid → Strides
strides_of g = record { su = 1; nu = g.nx; sv = g.nx; nv = g.ny; sw = g.nx * g.ny; nw = g.nz }

abbrev pub turn_strides : Strides → Strides
turn_strides s = record { su = s.sv; nu = s.nv; sv = s.sw; nv = s.nw; sw = s.su; nw = s.nu }
