-- The search of a block.
pub mod Scan
