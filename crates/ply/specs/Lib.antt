pub mod Body
-- inner
pub mod Inner
pub mod Ply
