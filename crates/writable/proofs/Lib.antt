pub mod All
pub mod Triangles
pub mod Grids
pub mod Worked
