-- The size of a leg's slabs.
pub mod Sizes
-- A leg's slabs say what the overlap rule says.
pub mod Legs
