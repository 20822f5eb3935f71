-- Which question comes first, worked.
pub mod Worked
pub mod Triangles
pub mod Outcome
pub mod Accepted
