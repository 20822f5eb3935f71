-- An edge need not be asked along a column whose square it does not cut.
pub mod Edge
-- The rule's values of a lattice's box, by the forms.
pub mod Values
-- The rule beyond the boxes, column by column.
pub mod Law
-- The axes taken in turn.
pub mod Turns
