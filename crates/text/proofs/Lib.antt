-- Texts put into bytes, one behind the other.
pub mod Texts
-- Numbers in base ten.
pub mod Decimals
-- Numbers with spaces behind them.
mod Spaced
-- A worked line.
pub mod Worked
