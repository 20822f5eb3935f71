pub mod Bar
-- inner
pub mod Inner
