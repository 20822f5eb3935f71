pub mod Limit
pub mod Questions
-- inner
pub mod Inner
pub mod Coded
