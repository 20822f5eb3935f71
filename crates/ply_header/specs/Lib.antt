pub mod Text
pub mod Header
pub mod Format
-- inner
pub mod Inner
