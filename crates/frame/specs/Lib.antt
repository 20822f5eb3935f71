pub mod File
pub mod Questions
pub mod Frame
-- inner
pub mod Inner
