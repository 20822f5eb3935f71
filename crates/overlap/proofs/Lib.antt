-- The least and the greatest value over a box's corners, as sums.
pub mod Corners
