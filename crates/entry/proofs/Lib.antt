-- The order of fractions.
pub mod Fractions
-- The entry fractions of a lattice's boxes, as computed.
pub mod Boxes
-- On one axis: the fraction at which a leg comes to a box.
pub mod Sides
-- The entry fraction is the least fraction of the leg whose point lies in the box.
pub mod Least
