-- A grid's cells with the axes taken in turn.
pub mod Views
-- What the columns, or a row, add.
pub mod Adding
-- Along each of the three axes.
pub mod Ways
