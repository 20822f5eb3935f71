pub mod Fits
-- inner
pub mod Inner
