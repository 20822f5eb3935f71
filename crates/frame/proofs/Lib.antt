pub mod Accepted
pub mod Triangles
pub mod Worked
