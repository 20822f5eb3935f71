-- A list written behind another.
mod Behind
-- What was packed comes back, since it fits.
pub mod Unpack
pub mod Fitting
pub mod Answers
pub mod Worked
