-- Corners measured from a point stay small.
--     measured-within
-- Assumes nothing.
use Rattle.integers.proofs.Bounds.{within-sub}
use Rattle.geometry.specs.declared.Point.{Point}
use Rattle.geometry.specs.declared.Triangle.{Triangle}
use Rattle.geometry.specs.Bounds.{offset_max, BoundedPoint, BoundedTriangle, PointWithin, TriangleWithin}
use Rattle.geometry.specs.Geometry.{minus}
use Rattle.geometry.specs.Inner.{measured_from}

less : {p o : Point} → BoundedPoint p → BoundedPoint o → PointWithin offset_max (minus p o)
less h k = record { x = within-sub h.x k.x; y = within-sub h.y k.y; z = within-sub h.z k.z }

pub measured-within : {o : Point} {t : Triangle} → BoundedPoint o → BoundedTriangle t → TriangleWithin offset_max (measured_from o t)
measured-within k h = record { v0 = less h.v0 k; v1 = less h.v1 k; v2 = less h.v2 k }
