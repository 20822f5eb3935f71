-- A range of cells from two quotients.
pub mod Ranges
