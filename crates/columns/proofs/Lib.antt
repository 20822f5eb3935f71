-- Cells drawn into a map.
pub mod Drawing
-- The cells of one column, of a row, of a rectangle.
pub mod Cells
-- The numbers of a grid's cells, in each turn of its axes.
pub mod Lattices
