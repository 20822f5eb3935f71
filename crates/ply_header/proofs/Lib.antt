-- Headers, worked.
pub mod WorkedHeaders
-- Texts, character by character.
mod Texts
-- Comments, from word to line feed.
mod Comments
-- Counts, digit by digit.
mod Counts
-- No count above a limit.
mod Roomy
-- A header that was written is read.
pub mod Written
