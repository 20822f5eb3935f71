-- The numbers of points, as they are copied.
mod Numbers
-- Routes of too many points.
mod TooMany
-- A worked example.
pub mod Worked
