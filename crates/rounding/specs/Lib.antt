pub mod Rounding
pub mod Widening
-- inner
pub mod Inner
