pub mod Numbers
-- inner
pub mod Inner
