-- The first of the numbers with a property.
pub mod Nearest
-- The same, while they are passed in their order.
mod Passing
-- The cells of a grid, passed by rows and layers.
mod Places
