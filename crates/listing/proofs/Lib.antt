-- Lines of cells, and those that fit.
mod Lines
-- What the code of a piece keeps.
mod Advance
-- Grids that a piece can be taken from.
mod Usable
-- How a listing begins.
mod Starts
-- The pieces make the whole.
pub mod Whole
-- The worked listing.
pub mod Worked
