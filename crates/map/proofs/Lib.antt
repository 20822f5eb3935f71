pub mod Filled
pub mod Counts
pub mod Maps
pub mod Worked
