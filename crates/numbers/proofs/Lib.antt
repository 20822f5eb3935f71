-- The numbers of a reading are small, and lead back to it.
pub mod Readings
pub mod Back
-- Worked examples.
pub mod Worked
