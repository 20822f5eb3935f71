pub mod Fill
pub mod Part
-- inner
pub mod Inner
