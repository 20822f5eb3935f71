-- inner
pub mod Range
