-- Triangles measured from a point. Definitions only; no public promise cites them.
use Rattle.geometry.specs.declared.Point.{Point}
use Rattle.geometry.specs.declared.Triangle.{Triangle}
use Rattle.geometry.specs.Geometry.{minus, triangle}

-- A triangle with its corners measured from the point o.
abbrev pub measured_from : Point → Triangle → Triangle
measured_from o t = triangle (minus t.v0 o) (minus t.v1 o) (minus t.v2 o)
