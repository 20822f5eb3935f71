pub mod Listing
-- inner
pub mod Inner
