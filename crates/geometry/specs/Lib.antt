pub mod Geometry
-- inner
pub mod Bounds
pub mod Inner
