-- A bar is behind each filled cell, and behind no other.
pub mod Filled
-- Bars behind cells of a worked frame.
pub mod Worked
