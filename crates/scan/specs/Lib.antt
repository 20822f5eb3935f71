pub mod Scan
-- inner
pub mod Inner
