-- What the rule asks beyond the boxes, by the forms of the triangle measured from the box.
pub mod Law
-- A chain of tests.
pub mod Chain
