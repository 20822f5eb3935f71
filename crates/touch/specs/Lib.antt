-- inner
pub mod Inner
