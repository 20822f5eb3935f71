-- inner
pub mod Run
