pub mod Weights
-- inner
pub mod Inner
