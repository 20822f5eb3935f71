-- The cells of a triangle, and files within the overlap test's bounds.
pub mod Triangles
mod Ready
-- What the fill says and leaves.
pub mod Answers
-- What its words hold of.
pub mod Words
pub mod Worked
