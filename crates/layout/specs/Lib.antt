pub mod Layout
pub mod Values
-- inner
pub mod Taken
