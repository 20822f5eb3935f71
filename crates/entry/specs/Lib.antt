pub mod Ratio
pub mod Entry
-- inner
pub mod Parts
pub mod Inner
