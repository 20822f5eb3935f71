pub mod Writing
-- inner
pub mod Put
