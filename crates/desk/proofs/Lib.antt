pub mod Fitting
pub mod Bars
pub mod Worked
