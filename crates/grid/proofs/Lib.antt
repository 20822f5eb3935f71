pub mod Numbers
pub mod Usable
