pub mod Route
pub mod Demand
-- inner
pub mod Inner
