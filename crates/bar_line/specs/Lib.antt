pub mod Line
-- inner
pub mod Inner
