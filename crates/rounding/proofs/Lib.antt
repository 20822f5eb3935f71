pub mod Near
pub mod Sums
pub mod Cases
pub mod Casts
pub mod Meaning
pub mod Wholes
