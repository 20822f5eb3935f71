pub mod Cells
pub mod Grid
-- inner
pub mod Range
pub mod Usable
