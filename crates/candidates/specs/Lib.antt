-- inner
pub mod Candidates
