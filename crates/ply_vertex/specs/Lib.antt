pub mod Vertex
-- inner
pub mod Inner
