pub mod Map
-- inner
pub mod Inner
