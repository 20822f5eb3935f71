-- inner
pub mod Within
pub mod Inner
