-- A form along a run.
pub mod Runs
-- A run, narrowed by tests.
pub mod Narrow
