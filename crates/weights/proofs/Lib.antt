-- How large the numbers of rows and candidates are.
pub mod Sizes
-- A candidate that fits, as the answer's weights.
pub mod Weighed
