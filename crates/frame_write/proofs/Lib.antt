pub mod Asked
pub mod Pieces
pub mod Worked
