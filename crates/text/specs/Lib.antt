pub mod Text
pub mod Lines
-- inner
pub mod Inner
