-- The axis of a row of cells.
pub mod Rows
-- Corners measured from a point.
pub mod Measured
-- The least or the greatest of three numbers.
pub mod Three
