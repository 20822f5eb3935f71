pub mod Held
pub mod Penned
pub mod Rows
pub mod Worked
