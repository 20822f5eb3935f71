pub mod Reaches
-- inner
pub mod Inner
