-- A block and its halves.
pub mod Cuts
-- A block that an edge rules out.
pub mod Far
