-- The size of the forms' numbers.
pub mod Sizes
