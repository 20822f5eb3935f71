-- Vertices, worked.
pub mod Worked
pub mod Patterns
pub mod Parts
