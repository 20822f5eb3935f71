pub mod Unpack
pub mod Fitting
pub mod File
pub mod Worked
