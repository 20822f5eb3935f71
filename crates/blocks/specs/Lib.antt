-- inner
pub mod Block
