-- inner
pub mod Pending
