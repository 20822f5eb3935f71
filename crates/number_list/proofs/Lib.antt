-- Numbers of 32 bits.
mod Held
-- Words and lines, character by character.
mod Runs
-- What a text says, piece by piece.
mod Readings
-- Numbers put one behind the other.
mod Places
-- What is left to read.
mod Turns
-- Texts and what they say.
pub mod Worked
