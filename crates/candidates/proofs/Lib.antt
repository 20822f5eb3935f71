-- A triangle that reaches a box does so by one of 81 candidates, none of which is large.
-- What holds of each row; what fits the rows of a triangle and a box.
pub mod Rows
pub mod Boxes
-- Of numbers that fall, the first to come to 0; weights moved to where two rows are 0.
pub mod First
pub mod Rays
-- Some candidate fits.
pub mod Found
-- How large a candidate's total is.
pub mod Totals
