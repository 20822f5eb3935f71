pub mod Rule
pub mod Cells
